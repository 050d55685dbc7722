use Rattle.smt_bits.proofs.BitwiseLemmas.{xor_is}
use Rattle.smt_bits.proofs.bitwise.bvxor.Goals as goal

pub returns : goal.returns
returns c =
    let number = xor_is c.width.result c.number.result c.number-2.result in
    cc
