use Rattle.std.proofs.Common.{List}
use Rattle.smt_trees.specs.Sexp.{weight_all}
use Rattle.smt_trees.specs.View.{sexps_of}
use Rattle.smt_terms.specs.Items.{items_before}
use Rattle.smt_terms.specs.Library.{ReadsModelsOf, StandsFor}
use Rattle.smt_terms.specs.Signature.{Entry, Signature}
use Rattle.smt_eval.proofs.blames.take_items.Given as goal

abbrev pub invariant-loop-item : goal.invariant-loop-item
invariant-loop-item l = record {
  reads : ReadsModelsOf l.definitions l.declared;
  stands : (s : Signature) (es : List Entry) → StandsFor l.declared s → StandsFor l.fn.definitions (items_before s es)
      → (more : List Entry) × StandsFor l.definitions (items_before s more);
}

abbrev pub decreases-loop-item : goal.decreases-loop-item
decreases-loop-item l = weight_all (sexps_of l.left)
