use Rattle.std.proofs.Common.{◌+◌, ◌*◌}
use Rattle.smt_trees.specs.Sexp.{weight, weight_all}
use Rattle.smt_trees.specs.View.{sexp_of, sexps_of}
use Rattle.rows.proofs.texts.writing.+write.Given as goal

abbrev pub decreases-write_tree : goal.decreases-write_tree
decreases-write_tree l = 2 * weight (sexp_of l.tree)

abbrev pub decreases-write_trees : goal.decreases-write_trees
decreases-write_trees l = 2 * weight_all (sexps_of l.trees) + 1
