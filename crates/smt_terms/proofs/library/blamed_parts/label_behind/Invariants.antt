use Rattle.smt_trees.specs.Sexp.{weight_all}
use Rattle.smt_trees.specs.View.{sexps_of}
use Rattle.smt_terms.proofs.library.blamed_parts.label_behind.Given as goal

abbrev pub decreases-loop-tree : goal.decreases-loop-tree
decreases-loop-tree l = weight_all (sexps_of l.left)
