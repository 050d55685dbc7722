use Rattle.std.proofs.Common.{rules, ◌≤◌}
use Rattle.smt_bits.proofs.BitwiseLemmas.{not_is}
use Rattle.smt_bits.proofs.bitwise.bvnot.Goals as goal

pub returns : goal.returns
returns c =
    let within : c.width.result ≤ 128 = search rules in
    let number = not_is c.width.result c.number.result within c.number.type_inv in
    cc
