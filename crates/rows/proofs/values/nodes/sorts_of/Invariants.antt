-- one list is open
use Rattle.std.proofs.Common.{◌≡◌, length}
use Rattle.smt_trees.specs.TapeView.{lists_of}
use Rattle.rows.proofs.values.nodes.sorts_of.Given as goal

abbrev pub invariant-loop-param : goal.invariant-loop-param
invariant-loop-param l = length (lists_of l.sorts) ≡ 1
