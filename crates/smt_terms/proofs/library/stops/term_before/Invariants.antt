use Rattle.smt_trees.specs.Sexp.{weight_all}
use Rattle.smt_trees.specs.View.{sexps_of}
use Rattle.smt_terms.proofs.library.stops.term_before.Given as goal

abbrev pub decreases-loop-term : goal.decreases-loop-term
decreases-loop-term l = weight_all (sexps_of l.left)
