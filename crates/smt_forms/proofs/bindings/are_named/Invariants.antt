use Rattle.std.proofs.Common.{◌≡◌}
use Rattle.smt_trees.specs.Sexp.{weight_all}
use Rattle.smt_trees.specs.View.{sexps_of}
use Rattle.smt_forms.specs.Bindings.{are_named_trees}
use Rattle.smt_forms.proofs.bindings.are_named.Given as goal

abbrev pub invariant-loop-rest : goal.invariant-loop-rest
invariant-loop-rest l = are_named_trees (sexps_of l.trees) ≡ are_named_trees (sexps_of l.left)

abbrev pub decreases-loop-rest : goal.decreases-loop-rest
decreases-loop-rest l = weight_all (sexps_of l.left)
