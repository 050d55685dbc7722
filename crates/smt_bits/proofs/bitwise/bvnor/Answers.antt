use Rattle.std.proofs.Common.{rules, ◌≤◌}
use Rattle.smt_bits.proofs.BitwiseLemmas.{nor_is}
use Rattle.smt_bits.proofs.bitwise.bvnor.Goals as goal

pub returns : goal.returns
returns c =
    let within : c.width.result ≤ 128 = search rules in
    let number = nor_is c.width.result c.number.result c.number-2.result within c.number.type_inv
    c.number-2.type_inv in
    cc
