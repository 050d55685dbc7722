-- all are literals where those that are left are
use Rattle.std.proofs.Common.{◌≡◌}
use Rattle.smt_trees.specs.Sexp.{weight_all}
use Rattle.smt_trees.specs.View.{sexps_of}
use Rattle.smt_script.specs.Parts.{are_literals}
use Rattle.smt_script.proofs.forms.shapes.are_literals.Given as goal

abbrev pub invariant-loop-first : goal.invariant-loop-first
invariant-loop-first l = are_literals (sexps_of l.trees) ≡ are_literals (sexps_of l.left)

abbrev pub decreases-loop-first : goal.decreases-loop-first
decreases-loop-first l = weight_all (sexps_of l.left)
