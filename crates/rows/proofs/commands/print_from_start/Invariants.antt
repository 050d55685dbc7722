-- the commands that were taken have smaller numbers than the next
use Rattle.std.proofs.Common.{◌≤◌}
use Rattle.smt_script.specs.StackView.{last_of}
use Rattle.rows.proofs.commands.print_from_start.Given as goal

abbrev pub invariant-loop-place : goal.invariant-loop-place
invariant-loop-place g l = last_of l.stack ≤ l.place
