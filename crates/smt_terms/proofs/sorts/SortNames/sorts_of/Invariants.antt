use Rattle.std.proofs.Common.{◌≡◌}
use Rattle.smt_trees.specs.Sexp.{weight_all}
use Rattle.smt_trees.specs.View.{sexps_of}
use Rattle.smt_terms.specs.Internal.LibraryView.{sort_names}
use Rattle.smt_terms.specs.SortTrees.{sorts_named}
use Rattle.smt_terms.proofs.SortLemmas.{named_behind}
use Rattle.smt_terms.proofs.sorts.SortNames.sorts_of.Given as goal

abbrev pub invariant-loop-tree : goal.invariant-loop-tree
invariant-loop-tree l = sorts_named (sort_names l.self) (sexps_of l.trees)
    ≡ named_behind (sort_names l.self) l.found.items (sexps_of l.left)

abbrev pub decreases-loop-tree : goal.decreases-loop-tree
decreases-loop-tree l = weight_all (sexps_of l.left)
