use Rattle.std.proofs.Common.{◌≡◌}
use Rattle.smt_trees.specs.Sexp.{weight_all}
use Rattle.smt_trees.specs.View.{sexps_of}
use Rattle.smt_forms.specs.Labels.{labels_among}
use Rattle.smt_terms.specs.Internal.Calls.{has_labels}
use Rattle.smt_terms.proofs.library.binders.has_label.Given as goal

abbrev pub invariant-loop-tree : goal.invariant-loop-tree
invariant-loop-tree l = has_labels (labels_among (sexps_of l.attributes)) ≡ has_labels (labels_among (sexps_of l.left))

abbrev pub decreases-loop-tree : goal.decreases-loop-tree
decreases-loop-tree l = weight_all (sexps_of l.left)
