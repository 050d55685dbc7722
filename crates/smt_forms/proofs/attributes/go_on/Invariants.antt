use Rattle.std.proofs.Common.{◌≡◌}
use Rattle.smt_trees.specs.Sexp.{weight_all}
use Rattle.smt_trees.specs.View.{sexps_of}
use Rattle.smt_forms.specs.Bindings.{go_on}
use Rattle.smt_forms.proofs.attributes.go_on.Given as goal

abbrev pub invariant-loop-keyword : goal.invariant-loop-keyword
invariant-loop-keyword l = go_on (sexps_of l.trees) ≡ go_on (sexps_of l.left)

abbrev pub decreases-loop-keyword : goal.decreases-loop-keyword
decreases-loop-keyword l = weight_all (sexps_of l.left)
