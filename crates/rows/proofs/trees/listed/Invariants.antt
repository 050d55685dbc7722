-- one list is open
use Rattle.std.proofs.Common.{◌≡◌, length}
use Rattle.smt_trees.specs.TapeView.{lists_of}
use Rattle.rows.proofs.trees.listed.Given as goal

abbrev pub invariant-loop-tree : goal.invariant-loop-tree
invariant-loop-tree l = length (lists_of l.list) ≡ 1
