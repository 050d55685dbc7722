use Rattle.std.proofs.Common.{◌≡◌, ◌≤◌, ◌+◌, ◌*◌, true}
use Rattle.smt_remarks.specs.Lines.{count_in, is_lined}
use Rattle.smt_explain.proofs.told.tell_due.Given as goal

abbrev pub invariant-loop-place : goal.invariant-loop-place
invariant-loop-place l =
    (is_lined l.form l.out.items ≡ true) × (count_in l.form l.out.items ≤ count_in l.form l.fn.out.items + 200 * l.place)
