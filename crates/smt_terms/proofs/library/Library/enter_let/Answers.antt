use Rattle.std.proofs.Common.{◌≡◌, ◌+◌, [], Option, ap, refl, reverse, subst, sym, ◌∙◌, inr, false, true, MatchOption, ℕ}
use Rattle.smt_trees.specs.Places.{LiesIn}
use Rattle.smt_trees.specs.Sexp.{Cons, Items, Reserved}
use Rattle.smt_trees.specs.View.{sexps_of}
use Rattle.smt_trees.specs.declared.reserved.Word.TheVariants.{Let}
use Rattle.smt_forms.specs.Bindings.{are_bindings}
use Rattle.smt_faults.specs.declared.term_fault.TermFault.TheVariants.{Form}
use Rattle.smt_terms.specs.Internal.DraftView.{sorts_seen}
use Rattle.smt_terms.specs.Internal.Frames.{IsBinding, IsLet, begun, distinct_from}
use Rattle.smt_terms.specs.Internal.LabelsView.{labels_view}
use Rattle.smt_terms.specs.Internal.LibraryView.{names_for}
use Rattle.smt_terms.specs.declared.library.frames.Binder.{Binder}
use Rattle.smt_terms.proofs.BinderLemmas.{let_with_parts}
use Rattle.smt_terms.proofs.FrameLemmas.{fault_through}
use Rattle.smt_terms.proofs.LetFrameLemmas.{let_out, let_start}
use Rattle.smt_terms.proofs.library.Library.enter_let.Goals as goal

pub returns-in_default-clause-next : goal.returns-in_default-clause-next
returns-in_default-clause-next c first lies chain =
    fault_through c.args.self.now c.args.whole (reverse c.args.frames.now.items) first _ Form chain
    (inr (let_out (names_for c.args.self.now (labels_view c.args.draft.now.labels)) (sorts_seen c.args.draft.now)
    (sexps_of c.args.args) c.in_default.ensures.trees))

pub returns-in_default-2-clause-next : goal.returns-in_default-2-clause-next
returns-in_default-2-clause-next c first lies chain =
    let bindings = sexps_of c.in-Some.bindings in
    let none = subst (λ (o : Option ℕ). MatchOption o (are_bindings bindings ≡ false)
    (λ n. (are_bindings bindings ≡ true) × (n ≡ distinct_from [] bindings))) c.in_default-2.is c.in_ok-distinct.ensures in
    fault_through c.args.self.now c.args.whole (reverse c.args.frames.now.items) first _ Form chain
    (inr (let_with_parts (names_for c.args.self.now (labels_view c.args.draft.now.labels)) (sorts_seen c.args.draft.now)
    (sexps_of c.args.args) bindings c.in-Some.ensures.trees.0 false c.in-Some.ensures.trees.2 none))

pub returns-clause-next : goal.returns-clause-next
returns-clause-next c first lies chain =
    let library = c.args.self.now in
    let whole = c.args.whole in
    let d = c.args.draft.now in
    let bindings = sexps_of c.in-Some.bindings in
    let body = c.in-Some.ensures.trees.0 in
    let found = subst (λ (o : Option ℕ). MatchOption o (are_bindings bindings ≡ false)
    (λ n. (are_bindings bindings ≡ true) × (n ≡ distinct_from [] bindings))) c.in-Some-2.is c.in_ok-distinct.ensures in
    let outer = begun (Items (Cons (Reserved Let) (sexps_of c.args.args))) c.args.part.around d in
    let places = c.in-Some.ensures.places whole c.args.part.to lies in
    let b : Binder = record {
      bindings = c.in_ok-place_before.field-0;
      body = c.in_ok-body.body;
      end = c.args.part.to;
      start = c.in_ok-narrow.field-0;
      around = c.args.part.around;
    } in
    let body_from = c.in_ok-body.ensures ∙ ap (λ n. n + c.args.part.to) c.size.ensures in
    let bindings_lie = subst (λ (n : ℕ). LiesIn whole c.in-Some.bindings n) (sym body_from) places.0 in
    let binder : IsLet whole b outer bindings body = record {
      bindings_lie = record {
        part = c.in-Some.bindings;
        lies = bindings_lie;
        from_is = c.in_ok-place_before.ensures ∙ ap (λ n. n + c.in_ok-body.body) c.size-2.ensures;
        are = refl;
      };
      body_lies = record {
        part = c.in-Some.bodies;
        lies = places.1;
        from_is = body_from;
        are = c.in-Some.ensures.trees.1;
      };
      is = ap (λ ts. Items (Cons (Reserved Let) ts)) c.in-Some.ensures.trees.2;
      form = found.0;
      around = refl;
      start = c.in_ok-narrow.ensures ∙ c.len.ensures;
    } in
    let is : IsBinding library whole b c.in-Some.bindings c.in-Some-2.distinct false outer d = record {
      bindings = bindings;
      body = body;
      bound = [];
      binder = binder;
      lies = bindings_lie;
      counted = found.1;
      so_far = let_start library d bindings found.0;
    } in
    c.check_bindings.ensures.next first outer c.requires is chain
