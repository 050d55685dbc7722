use Rattle.std.proofs.Common.{ap, ◌∙◌}
use Rattle.std.proofs.lemmas.List.{map-append}
use Rattle.std.proofs.lemmas.Result.{err_from_is_err_and}
use Rattle.smt_trees.specs.View.{sexp_of, sexps_of}
use Rattle.smt_forms.specs.Labels.{label_of_tree}
use Rattle.smt_terms.specs.Internal.LabelsView.{labels_view}
use Rattle.smt_terms.specs.Internal.LibraryView.{names_for, names_of_library}
use Rattle.smt_forms.specs.Labels.{labels_among}
use Rattle.smt_terms.specs.Internal.NodesView.{nodes_given}
use Rattle.smt_terms.proofs.LabelLemmas.{AreGivenOf-next, carried_fault, faults-fault, faults-next}
use Rattle.smt_terms.proofs.LabelLemmas.{labels_among-first, names_behind, with_term}
use Rattle.smt_terms.proofs.LabelNodeLemmas.{nodes_all, nodes_next}
use Rattle.smt_terms.proofs.TableLemmas.{behind_behind}
use Rattle.smt_terms.proofs.library.Library.give_labels.Goals as goal

pub returns-in_err-give_label_at-clause-fault : goal.returns-in_err-give_label_at-clause-fault
returns-in_err-give_label_at-clause-fault c =
    let p = err_from_is_err_and c.from_residual.result c.from_residual.ensures.1 in
    λ scope used. rw (p.1, p.2)
    (carried_fault _ _ _ (c.loop-tree.invariant.fault scope used)
    (faults-fault (names_for c.args.self.now (labels_view c.loop-tree.labels)) scope
    (sexp_of c.args.term) (labels_among (sexps_of c.loop-tree.left))
    (label_of_tree (sexp_of c.in-Some.tree) (sexps_of c.in-Some.rest))
    (labels_among (sexps_of c.in-Some.rest)) _
    (ap labels_among c.in-Some.ensures ∙ labels_among-first (sexp_of c.in-Some.tree)
    (sexps_of c.in-Some.rest)) (c.in_err-give_label_at.ensures.fault scope used)))

pub loop-tree-preserved : goal.loop-tree-preserved
loop-tree-preserved c =
    let names = names_of_library c.args.self.now in
    let term = sexp_of c.args.term in
    let xs = label_of_tree (sexp_of c.in-Some.tree) (sexps_of c.in-Some.rest) in
    let ys = labels_among (sexps_of c.in-Some.rest) in
    let split =
    ap labels_among c.in-Some.ensures ∙ labels_among-first (sexp_of c.in-Some.tree)
    (sexps_of c.in-Some.rest) in
    record {
      fault = λ scope used. c.loop-tree.invariant.fault scope used
          ∙ faults-next (names_for c.args.self.now (labels_view c.loop-tree.labels))
          (names_for c.args.self.now (labels_view c.give_label_at.new.labels))
          scope term (labels_among (sexps_of c.loop-tree.left)) xs ys
          (names_behind c.args.self.now names c.loop-tree.labels c.give_label_at.new.labels
          (with_term term xs) c.in_ok-give_label_at.ensures.labels) split
          (c.in_ok-give_label_at.ensures.fault scope used);
      given = AreGivenOf-next names c.args.labels.now c.loop-tree.labels c.give_label_at.new.labels
          (with_term term (labels_among (sexps_of c.args.attributes)))
          (with_term term (labels_among (sexps_of c.loop-tree.left)))
          (with_term term xs) (with_term term ys) c.loop-tree.invariant.given
          (ap (with_term term) split ∙ map-append _ xs ys) c.in_ok-give_label_at.ensures.labels;
      nodes = nodes_next c.args.checked.now.node _ (nodes_given c.loop-tree.labels)
          (nodes_given c.give_label_at.new.labels) (labels_among (sexps_of c.loop-tree.left)) xs ys
          c.loop-tree.invariant.nodes split c.in_ok-give_label_at.ensures.nodes;
      longer = (
        _,
        behind_behind c.args.labels.now.given.items c.loop-tree.labels.given.items
            c.give_label_at.new.labels.given.items c.loop-tree.invariant.longer.0
            c.give_label_at.ensures.longer.0 c.loop-tree.invariant.longer.1 c.give_label_at.ensures.longer.1,
      );
      named = λ t h d. c.in_ok-give_label_at.ensures.named t (c.loop-tree.invariant.named t h d) d;
    }

pub returns-in_err-give_label_at-clause-longer : goal.returns-in_err-give_label_at-clause-longer
returns-in_err-give_label_at-clause-longer c = (
  _,
  behind_behind c.args.labels.now.given.items c.loop-tree.labels.given.items
      c.give_label_at.new.labels.given.items c.loop-tree.invariant.longer.0
      c.give_label_at.ensures.longer.0 c.loop-tree.invariant.longer.1 c.give_label_at.ensures.longer.1,
)

pub returns-clause-nodes : goal.returns-clause-nodes
returns-clause-nodes c = nodes_all c.args.checked.now.node _ (nodes_given c.loop-tree.labels) _
    c.loop-tree.invariant.nodes (ap labels_among c.in_default.ensures)
