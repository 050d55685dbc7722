use Rattle.std.proofs.Common.{rules, ◌≤◌}
use Rattle.smt_bits.proofs.BitwiseLemmas.{nand_is}
use Rattle.smt_bits.proofs.bitwise.bvnand.Goals as goal

pub returns : goal.returns
returns c =
    let within : c.width.result ≤ 128 = search rules in
    let number = nand_is c.width.result c.number.result c.number-2.result within c.number.type_inv in
    cc
