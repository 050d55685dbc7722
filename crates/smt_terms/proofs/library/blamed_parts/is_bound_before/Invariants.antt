use Rattle.smt_trees.specs.Sexp.{weight_all}
use Rattle.smt_trees.specs.View.{sexps_of}
use Rattle.smt_terms.proofs.library.blamed_parts.is_bound_before.Given as goal

abbrev pub decreases-loop-earlier : goal.decreases-loop-earlier
decreases-loop-earlier l = weight_all (sexps_of l.left)
