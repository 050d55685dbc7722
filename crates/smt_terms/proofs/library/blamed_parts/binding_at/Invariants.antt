use Rattle.smt_trees.specs.Sexp.{weight_all}
use Rattle.smt_trees.specs.View.{sexps_of}
use Rattle.smt_terms.proofs.library.blamed_parts.binding_at.Given as goal

abbrev pub decreases-loop-name : goal.decreases-loop-name
decreases-loop-name l = weight_all (sexps_of l.left)
