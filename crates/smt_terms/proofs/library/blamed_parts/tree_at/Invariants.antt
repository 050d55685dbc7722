use Rattle.std.proofs.Common.{◌≡◌}
use Rattle.smt_trees.specs.Sexp.{weight_all}
use Rattle.smt_trees.specs.View.{sexps_of}
use Rattle.smt_terms.specs.Blame.{tree_at}
use Rattle.smt_terms.proofs.library.blamed_parts.tree_at.Given as goal

abbrev pub invariant-loop-tree : goal.invariant-loop-tree
invariant-loop-tree l = tree_at (sexps_of l.fn.trees) l.fn.place ≡ tree_at (sexps_of l.left) l.before

abbrev pub decreases-loop-tree : goal.decreases-loop-tree
decreases-loop-tree l = weight_all (sexps_of l.left)
