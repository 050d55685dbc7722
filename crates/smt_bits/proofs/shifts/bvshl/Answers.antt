use Rattle.std.proofs.Common.{rules, ◌≤◌, ◌*◌, ◌^◌}
use Rattle.smt_bits.proofs.ArithmeticLemmas.{shorter}
use Rattle.smt_bits.proofs.shifts.bvshl.Goals as goal

pub returns : goal.returns
returns c =
    let within : c.width.result ≤ 128 = search rules in
    let number = shorter c.width.result (c.number.result * 2 ^ c.number-2.result) within in
    cc
