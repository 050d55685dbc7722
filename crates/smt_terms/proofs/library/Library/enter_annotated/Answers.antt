use Rattle.std.proofs.Common.{◌+◌, ap, refl, reverse, subst, sym, ◌∙◌}
use Rattle.smt_trees.specs.Places.{IsListIn}
use Rattle.smt_trees.specs.Sexp.{Cons, Items, Reserved}
use Rattle.smt_trees.specs.View.{sexp_of, sexps_of}
use Rattle.smt_trees.specs.declared.reserved.Word.TheVariants.{Bang}
use Rattle.smt_terms.specs.Checking.{sort_in}
use Rattle.smt_terms.specs.Internal.DraftView.{IsPlaced, seen_by, sorts_seen}
use Rattle.smt_terms.specs.Internal.Frames.{Chain, LabelledWaits, Link, begun}
use Rattle.smt_terms.specs.Internal.LabelsView.{labels_view}
use Rattle.smt_terms.specs.Internal.LibraryView.{names_for}
use Rattle.smt_terms.specs.declared.library.frames.Frame.{Frame}
use Rattle.smt_terms.specs.declared.library.frames.Frame.TheVariants as frame
use Rattle.smt_terms.specs.declared.library.frames.Labelled.{Labelled}
use Rattle.smt_terms.specs.declared.library.draft.Draft.{Draft}
use Rattle.smt_terms.proofs.BinderLemmas.{bang_with_parts}
use Rattle.smt_terms.proofs.DraftLemmas.{placed_outside}
use Rattle.smt_terms.proofs.FrameLemmas.{bang_leads, begun_next, chain_leads, fault_through, leads_itself, pushed}
use Rattle.std.proofs.Common.{inr, false}
use Rattle.smt_faults.specs.declared.term_fault.TermFault.TheVariants.{Form}
use Rattle.smt_terms.proofs.library.Library.enter_annotated.Goals as goal

pub returns-in_default-clause-next : goal.returns-in_default-clause-next
returns-in_default-clause-next c whole first lies chain =
    let names = names_for c.args.self.now (labels_view c.args.draft.now.labels) in
    fault_through c.args.self.now whole (reverse c.args.frames.now.items) first _ Form chain
    (inr (ap (λ ts. sort_in names (sorts_seen c.args.draft.now) (Items (Cons (Reserved Bang) ts)))
    c.in_default.ensures.trees))

pub returns-then-not-are_attributes-clause-next : goal.returns-then-not-are_attributes-clause-next
returns-then-not-are_attributes-clause-next c whole first lies chain =
    let names = names_for c.args.self.now (labels_view c.args.draft.now.labels) in
    fault_through c.args.self.now whole (reverse c.args.frames.now.items) first _ Form chain
    (inr (bang_with_parts names (sorts_seen c.args.draft.now) (sexps_of c.args.args) (sexps_of c.in-Some.attributes)
    (sexp_of c.in-Some.term) false c.in-Some.ensures.trees
    (sym c.are_attributes.ensures ∙ c.if-not-are_attributes.true)))

pub returns-then-not-has_label-clause-next : goal.returns-then-not-has_label-clause-next
returns-then-not-has_label-clause-next c whole first lies chain =
    let d = c.args.draft.now in
    let term = sexp_of c.in-Some.term in
    let fs = reverse c.args.frames.now.items in
    let places = c.in-Some.ensures.places whole c.args.part.to lies in
    begun_next c.begin.result c.args.self.now whole fs first (begun term c.in-Some-checked_add.around d) c.begin.new.draft
    c.in-Some.term (c.size.result + c.args.part.to) c.begin.ensures.begun c.begin.ensures.fault refl c.requires
    (subst (λ n. IsListIn whole c.in-Some.term (n + c.args.part.to)) (sym c.size.ensures) places.1)
    (chain_leads c.args.self.now whole fs first (begun term c.in-Some-checked_add.around d)
    (begun (Items (Cons (Reserved Bang) (sexps_of c.args.args))) c.args.part.around d)
    (bang_leads c.args.self.now d c.args.part.around c.in-Some-checked_add.around (sexps_of c.args.args)
    (sexps_of c.in-Some.attributes) term c.in-Some.ensures.trees
    (sym c.are_attributes.ensures ∙ c.if-not-are_attributes.false)
    (sym c.has_label.ensures ∙ c.if-not-has_label.true) c.in-Some-checked_add.ensures.1)
    chain)

pub returns-clause-next : goal.returns-clause-next
returns-clause-next c whole first lies chain =
    let d = c.args.draft.now in
    let term = sexp_of c.in-Some.term in
    let fs = reverse c.args.frames.now.items in
    let places = c.in-Some.ensures.places whole c.args.part.to lies in
    let inside : Draft = record d { base = c.len-draft.result } in
    let outer = begun (Items (Cons (Reserved Bang) (sexps_of c.args.args))) c.args.part.around d in
    let inner = begun term 0 inside in
    let l : Labelled = record {
      parts = c.in_ok-parts.parts;
      end = c.args.part.to;
      around = c.args.part.around;
      base = c.in_ok-narrow.field-0;
    } in
    let waits : LabelledWaits whole l outer inner = record {
      attributes = sexps_of c.in-Some.attributes;
      lie = record { part = c.args.args; lies = lies; from_is = c.in_ok-parts.ensures ∙ ap (λ n. n + c.args.part.to) c.size-2.ensures; are = c.in-Some.ensures.trees };
      is = ap (λ ts. Items (Cons (Reserved Bang) ts)) c.in-Some.ensures.trees;
      form = sym c.are_attributes.ensures ∙ c.if-not-are_attributes.false;
      labelled = sym c.has_label.ensures ∙ c.if-not-has_label.false;
      around = refl;
      none_around = refl;
      base = c.in_ok-narrow.ensures;
      inside = ap (λ n. let x : Draft = record d { base = n } in x) c.len-draft.ensures;
    } in
    let f : Frame = frame.Labelled l in
    let link : Link c.args.self.now whole f outer inner =
    record { part = inner; leads = leads_itself c.args.self.now inner; placed = c.requires; waits = waits } in
    begun_next c.begin-2.result c.args.self.now whole (reverse c.push.new.self.items) first inner c.begin-2.new.draft
    c.in-Some.term (c.size-3.result + c.args.part.to) c.begin-2.ensures.begun c.begin-2.ensures.fault refl
    (subst (λ n. IsPlaced (seen_by d) n) (sym c.len-draft.ensures)
    (placed_outside d.base (seen_by d) c.requires))
    (subst (λ n. IsListIn whole c.in-Some.term (n + c.args.part.to)) (sym c.size-3.ensures) places.1)
    (subst (λ xs. Chain c.args.self.now whole xs first inner)
    (sym (pushed c.args.frames.now.items c.push.new.self.items f c.in_ok-push.ensures.items)) (outer, link, chain))
