use Rattle.std.proofs.Common.{arith}
use Rattle.smt_report.proofs.CountLemmas.{invalid_so, not_decided_so, valid_so}
use Rattle.std.specs.List.{list_any}
use Rattle.smt_report.specs.Verdict.{is_fault_line}
use Rattle.smt_report.proofs.verdict.Tally.verdict.Goals as goal

pub returns-then-self-gt0 : goal.returns-then-self-gt0
returns-then-self-gt0 c = λ lines is same.
    invalid_so c.args.self lines c.args.has_fault is c.if-has_fault.false c.if-self-gt0.true
    (list_any is_fault_line lines) same

pub returns-then-self-gt0-2 : goal.returns-then-self-gt0-2
returns-then-self-gt0-2 c = λ lines is same.
    not_decided_so c.args.self lines c.args.has_fault is c.if-has_fault.false (omega (arith, c.if-self-gt0.false))
    c.if-self-gt0-2.true (list_any is_fault_line lines) same

pub returns-else-self-gt0-2 : goal.returns-else-self-gt0-2
returns-else-self-gt0-2 c = λ lines is same.
    valid_so c.args.self lines c.args.has_fault is c.if-has_fault.false (omega (arith, c.if-self-gt0.false))
    (omega (arith, c.if-self-gt0-2.false)) (list_any is_fault_line lines) same
