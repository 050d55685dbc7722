use Rattle.std.proofs.Common.{◌≡◌, ◌++◌, [], ℕ, List, map}
use Rattle.smt_trees.specs.Sexp.{weight_all}
use Rattle.smt_trees.specs.View.{sexp_of, sexps_of}
use Rattle.smt_theory.specs.Sort.{Sort}
use Rattle.smt_terms.specs.Internal.SoFar.{AreGivenOf}
use Rattle.smt_terms.specs.Checking.{flaw_of_labels}
use Rattle.smt_terms.specs.Internal.LabelsView.{labels_view}
use Rattle.smt_terms.specs.Internal.LibraryView.{names_for, names_of_library}
use Rattle.smt_forms.specs.Labels.{labels_among}
use Rattle.smt_forms.specs.Variables.{uses_variable}
use Rattle.smt_terms.specs.Denotes.{Denotes, Table}
use Rattle.smt_terms.specs.Internal.NodesView.{nodes_given}
use Rattle.smt_terms.specs.Internal.TableView.{AreNamed}
use Rattle.smt_terms.specs.declared.labels.Label.{Label}
use Rattle.smt_terms.proofs.LabelLemmas.{with_term}
use Rattle.smt_terms.proofs.library.Library.give_labels.Given as goal

abbrev pub invariant-loop-tree : goal.invariant-loop-tree
invariant-loop-tree l = record {
  fault : (scope : List (List ℕ × Sort)) → uses_variable scope (sexp_of l.term) ≡ l.checked.is_open
      → flaw_of_labels (names_for l.self (labels_view l.fn.labels)) scope (sexp_of l.term)
      (labels_among (sexps_of l.attributes))
      ≡ flaw_of_labels (names_for l.self (labels_view l.labels)) scope (sexp_of l.term)
      (labels_among (sexps_of l.left));
  given : AreGivenOf (names_of_library l.self) l.fn.labels l.labels
      (with_term (sexp_of l.term) (labels_among (sexps_of l.attributes)))
      (with_term (sexp_of l.term) (labels_among (sexps_of l.left)));
  nodes : nodes_given l.fn.labels ++ map (λ x. l.checked.node) (labels_among (sexps_of l.attributes))
      ≡ nodes_given l.labels ++ map (λ x. l.checked.node) (labels_among (sexps_of l.left));
  longer : (more : List Label) × (l.labels.given.items ≡ l.fn.labels.given.items ++ more);
  named : (t : Table) → AreNamed t l.fn.labels.given.items → Denotes t [] 0 0 l.checked.node (sexp_of l.term)
      → AreNamed t l.labels.given.items;
}

abbrev pub decreases-loop-tree : goal.decreases-loop-tree
decreases-loop-tree l = weight_all (sexps_of l.left)
