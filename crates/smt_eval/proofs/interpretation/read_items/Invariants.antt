-- the items so far are defined, and what all of them are is what the others are behind these
use Rattle.std.proofs.Common.{◌≡◌, ◌≤◌, ◌+◌, ℕ, List, []}
use Rattle.smt_trees.specs.Sexp.{count, weight_all}
use Rattle.smt_trees.specs.View.{sexps_of}
use Rattle.smt_terms.specs.Items.{items_before}
use Rattle.smt_terms.specs.Library.{ReadsModelsOf, StandsFor}
use Rattle.smt_terms.specs.Signature.{Entry, Signature}
use Rattle.smt_eval.specs.Model.{items_from}
use Rattle.smt_eval.proofs.interpretation.read_items.Given as goal

abbrev pub invariant-loop-item : goal.invariant-loop-item
invariant-loop-item l = record {
  reads : ReadsModelsOf l.definitions l.declared;
  left : count (sexps_of l.left) ≤ count (sexps_of l.items);
  items : (s : Signature) → StandsFor l.declared s
      → (es : List Entry) × StandsFor l.definitions (items_before s es)
      × ((n : ℕ) × (n + count (sexps_of l.left) ≡ count (sexps_of l.items))
      × (items_from s [] 1 (sexps_of l.items) ≡ items_from s es (n + 1) (sexps_of l.left)));
}

abbrev pub decreases-loop-item : goal.decreases-loop-item
decreases-loop-item l = weight_all (sexps_of l.left)
