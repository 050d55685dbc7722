use Rattle.smt_bits.proofs.BitwiseLemmas.{or_is}
use Rattle.smt_bits.proofs.bitwise.bvor.Goals as goal

pub returns : goal.returns
returns c =
    let number = or_is c.width.result c.number.result c.number-2.result in
    cc
