use Rattle.std.proofs.Common.{◌≡◌, map}
use Rattle.smt_trees.specs.Sexp.{weight_all}
use Rattle.smt_trees.specs.View.{sexps_of}
use Rattle.smt_theory.specs.Index.{index_view}
use Rattle.smt_forms.specs.Identifier.{all_indexes}
use Rattle.smt_forms.proofs.IdentifierLemmas.{indexes_behind}
use Rattle.smt_forms.proofs.identifier.indexes_of.Given as goal

abbrev pub invariant-loop-tree : goal.invariant-loop-tree
invariant-loop-tree l =
    all_indexes (sexps_of l.trees) ≡ indexes_behind (map index_view l.indexes.items) (sexps_of l.left)

abbrev pub decreases-loop-tree : goal.decreases-loop-tree
decreases-loop-tree l = weight_all (sexps_of l.left)
