use Rattle.std.proofs.Common.{◌≡◌, is_some}
use Rattle.smt_trees.specs.Sexp.{weight_all}
use Rattle.smt_trees.specs.View.{sexps_of}
use Rattle.smt_forms.specs.Identifier.{all_indexes}
use Rattle.smt_forms.proofs.identifier.are_indexes.Given as goal

abbrev pub invariant-loop-tree : goal.invariant-loop-tree
invariant-loop-tree l = is_some (all_indexes (sexps_of l.trees)) ≡ is_some (all_indexes (sexps_of l.left))

abbrev pub decreases-loop-tree : goal.decreases-loop-tree
decreases-loop-tree l = weight_all (sexps_of l.left)
