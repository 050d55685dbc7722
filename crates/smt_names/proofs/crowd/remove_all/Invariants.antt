use Rattle.std.proofs.Common.{◌≤◌}
use Rattle.smt_names.proofs.crowd.remove_all.Given as goal

abbrev pub invariant-loop-name : goal.invariant-loop-name
invariant-loop-name l = l.over ≤ l.name-index
