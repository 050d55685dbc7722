use Rattle.smt_bits.proofs.BitwiseLemmas.{and_is}
use Rattle.smt_bits.proofs.bitwise.bvand.Goals as goal

pub returns : goal.returns
returns c =
    let number = and_is c.width.result c.number.result c.number-2.result in
    cc
