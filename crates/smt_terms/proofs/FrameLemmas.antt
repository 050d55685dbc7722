-- Stacks of frames: what is found of a part goes through them to the whole.
use Rattle.std.proofs.Common.{◌≡◌, ◌≤◌, ◌+◌, ℕ, List, [], ◌∷◌, ◌++◌, Bool, true, false, Ok, Err, IfOk, Result, inl, inr}
use Rattle.std.proofs.Common.{refl, ap, sym, subst, ◌∙◌, arith, reverse}
use Rattle.std.proofs.lemmas.List.{reverse-append}
use Rattle.smt_trees.specs.Sexp.{Sexp, Sexps, Cons, Items, Nil, Reserved}
use Rattle.smt_trees.specs.declared.reserved.Word.TheVariants.{Bang}
use Rattle.smt_trees.specs.declared.view.Trees.{Trees}
use Rattle.smt_forms.specs.Bindings.{are_attributes}
use Rattle.smt_forms.specs.Labels.{labels_among, labels_in, labels_in_bindings}
use Rattle.smt_faults.specs.Outcome.{Tells}
use Rattle.smt_faults.specs.declared.term_fault.TermFault.{TermFault}
use Rattle.smt_terms.specs.Checking.{bound_in, sort_in, sorts_in}
use Rattle.smt_terms.specs.Internal.Calls.{IsSortedUnlessOpen, has_labels}
use Rattle.smt_terms.specs.Internal.DraftView.{IsPlaced, argument_sorts, is_open, seen_by, sorts_seen}
use Rattle.smt_terms.specs.Internal.Frames.{ArgumentWaits, Begun, BindingWaits, BodyWaits, Chain, HasFault, IsDone}
use Rattle.smt_terms.specs.Internal.Frames.{IsLess, LabelledWaits, Leads, Link, MayGoOn, Waits, begun}
use Rattle.smt_terms.specs.Internal.LabelsView.{AreGiven, labels_view}
use Rattle.smt_terms.specs.Internal.LibraryView.{names_for, names_of_library}
use Rattle.smt_terms.specs.Internal.NodesView.{Stands}
use Rattle.smt_terms.specs.Internal.SoFar.{binding, sorts_since}
use Rattle.smt_terms.specs.declared.library.Library.{Library}
use Rattle.smt_terms.specs.declared.library.draft.CheckedTerm.{CheckedTerm}
use Rattle.smt_terms.specs.declared.library.draft.Draft.{Draft}
use Rattle.smt_terms.specs.declared.library.frames.Application.{Application}
use Rattle.smt_terms.specs.declared.library.frames.Binder.{Binder}
use Rattle.smt_terms.specs.declared.library.frames.Body.{Body}
use Rattle.smt_terms.specs.declared.library.frames.Labelled.{Labelled}
use Rattle.smt_terms.specs.declared.library.frames.Frame.{Frame}
use Rattle.smt_terms.specs.declared.library.frames.Frame.TheVariants as frame
use Rattle.smt_terms.specs.declared.library.frames.Next.{Next}
use Rattle.smt_terms.specs.declared.library.frames.Part.{Part}
use Rattle.smt_terms.proofs.ArgumentLemmas.{since_within}
use Rattle.smt_terms.proofs.BinderLemmas.{bound_in-fault, fault_of_bindings}
use Rattle.smt_terms.proofs.BinderNodeLemmas.{annotated_stands}
use Rattle.smt_terms.proofs.CheckerLemmas.{fault_of_args, sorts_behind-fault}
use Rattle.smt_terms.proofs.ClosedLemmas.{closed}
use Rattle.smt_terms.proofs.KeptLemmas.{Keeps-unlabelled, kept-sort}
use Rattle.smt_terms.specs.Signature.{unlabelled}
use Rattle.smt_terms.proofs.DraftLemmas.{annotated_alone, let_sorted, no_labels, open_whole, sorts_kept, tells_same}
use Rattle.smt_terms.proofs.LabelLemmas.{AreGivenOf-all}
use Rattle.std.proofs.Common.{append-nil, length, map, ◌<◌, ◌*◌, IfErr, MatchResult}
use Rattle.smt_trees.specs.Places.{IsListIn, LiesIn, size_of}
use Rattle.smt_trees.specs.View.{sexp_of, sexps_of}
use Rattle.smt_trees.specs.declared.view.Tree.{Tree}
use Rattle.smt_terms.specs.Internal.Frames.{AreNested, Begins, IsDoneNext, IsNext, Lie, place_behind}
use Rattle.smt_terms.specs.declared.library.frames.Next.TheVariants.{Checked, Enter}

-- ---- parts that lead to others

pub leads_itself : (library : Library) (p : Begun) → Leads library p p
leads_itself library p = record { done = λ last c h. h; fault = λ e h. h }

pub leads_on : (library : Library) (p q r : Begun) → Leads library p q → Leads library q r → Leads library p r
leads_on library p q r first second = record {
  done = λ last c h. second.done last c (first.done last c h);
  fault = λ e h. second.fault e (first.fault e h);
}

pub chain_leads : (library : Library) (whole : Trees) (fs : List Frame) (first p q : Begun) → Leads library p q
    → Chain library whole fs first q → Chain library whole fs first p
chain_leads library whole [] first p q leads chain = leads_on library p q first leads chain
chain_leads library whole (f ∷ fs) first p q leads chain =
    let link : Link library whole f chain.0 p = record {
      part = chain.1.part;
      leads = leads_on library p q chain.1.part leads chain.1.leads;
      placed = chain.1.placed;
      waits = chain.1.waits;
    } in
    (chain.0, link, chain.2)

-- an annotation without a label leads to the term in it
pub bang_leads : (library : Library) (d : Draft) (around more : ℕ) (args attributes : Sexps) (term : Sexp)
    → args ≡ Cons term attributes → are_attributes attributes ≡ true
    → has_labels (labels_among attributes) ≡ false → more ≡ around + 1
    → Leads library (begun term more d) (begun (Items (Cons (Reserved Bang) args)) around d)
bang_leads library d around more args attributes term split form none is =
    let names = names_for library (labels_view d.labels) in
    let same = annotated_alone names (sorts_seen d) args attributes term split form none in
    record {
      done = λ last c h. record {
        sort = same ∙ h.sort;
        labels = subst (λ xs. AreGiven (names_of_library library) d.labels last.labels xs)
            (sym (ap (λ ts. labels_in (Items (Cons (Reserved Bang) ts))) split
            ∙ ap (λ xs. labels_in term ++ map (λ x. (x, term)) xs) (no_labels (labels_among attributes) none)
            ∙ append-nil (labels_in term))) h.labels;
        kept = h.kept;
        waiting = h.waiting;
        used = h.used ∙ sym (ap (λ ts. is_open d (Items (Cons (Reserved Bang) ts))) split);
        node = annotated_stands library d last around args attributes term c split none
            (subst (λ n. Stands library d last n term c) is h.node);
        longer = h.longer;
      };
      fault = λ e h. tells_same _ _ e same h;
    }

-- ---- faults

argument_fault : (library : Library) (whole : Trees) (a : Application) (left : ℕ) (b : Bool) (outer inner : Begun)
    (e : TermFault) → ArgumentWaits library whole a left b outer inner → HasFault library inner e
    → HasFault library outer e
argument_fault library whole a left b outer inner e w h =
    let names = names_for library (labels_view outer.draft.labels) in
    let here = names_for library (labels_view inner.draft.labels) in
    let scope = sorts_seen outer.draft in
    let seen : Tells (sort_in here scope inner.term) e = tells_same _ _ e (ap (λ vs. sort_in here vs inner.term)
    (sym (sorts_kept outer.draft inner.draft w.so_far.kept))) h in
    let args : Tells (sorts_in names scope w.args) e = tells_same _ _ e w.so_far.answer
    (sorts_behind-fault here scope (sorts_since outer.draft inner.draft) inner.term w.rest (Cons inner.term w.rest) e
    refl seen) in
    tells_same _ _ e (ap (sort_in names scope) w.application.is)
    (fault_of_args names scope w.application.head w.args (Cons w.application.head w.args) w.application.identifier e
    refl w.application.plain w.application.named args)

binding_fault : (library : Library) (whole : Trees) (b : Binder) (left distinct : ℕ) (o : Bool)
    (outer inner : Begun) (e : TermFault) → BindingWaits library whole b left distinct o outer inner
    → HasFault library inner e → HasFault library outer e
binding_fault library whole b left distinct o outer inner e w h =
    let names = names_for library (labels_view outer.draft.labels) in
    let here = names_for library (labels_view inner.draft.labels) in
    let scope = sorts_seen outer.draft in
    let seen : Tells (sort_in here scope inner.term) e = tells_same _ _ e (ap (λ vs. sort_in here vs inner.term)
    (sym (sorts_kept outer.draft inner.draft w.so_far.kept))) h in
    let bound : Tells (bound_in names scope [] w.bindings) e = tells_same _ _ e w.so_far.answer
    (bound_in-fault here scope w.bound w.name inner.term w.rest (Cons (binding w.name inner.term) w.rest) e refl
    w.fresh seen) in
    tells_same _ _ e (ap (sort_in names scope) w.binder.is)
    (fault_of_bindings names scope (Cons (Items w.bindings) (Cons w.body Nil)) w.bindings w.body e refl w.binder.form
    bound)

body_fault : (library : Library) (b : Body) (o : Bool) (outer inner : Begun) (e : TermFault)
    → BodyWaits library b o outer inner → HasFault library inner e → HasFault library outer e
body_fault library b o outer inner e w h =
    let names = names_for library (labels_view outer.draft.labels) in
    let args = Cons (Items w.bindings) (Cons inner.term Nil) in
    tells_same _ _ e (ap (sort_in names (sorts_seen outer.draft)) w.is)
    (tells_same _ _ e
    (let_sorted library outer.draft w.mid inner.draft w.bound args w.bindings inner.term refl w.form
    (w.so_far.answer)
    (AreGivenOf-all (names_of_library library) outer.draft.labels w.mid.labels (labels_in_bindings w.bindings)
    (labels_in_bindings Nil) w.so_far.given refl) w.so_far.kept w.seen w.labels) h)

labelled_fault : (library : Library) (whole : Trees) (l : Labelled) (outer inner : Begun) (e : TermFault)
    → LabelledWaits whole l outer inner → HasFault library inner e → HasFault library outer e
labelled_fault library whole l outer inner e w (inl m) = inl m
labelled_fault library whole l outer inner e w (inr h) =
    let same : sort_in (names_for library (labels_view inner.draft.labels)) (sorts_seen inner.draft) inner.term
    ≡ sort_in (names_for library (labels_view outer.draft.labels)) (sorts_seen outer.draft) inner.term =
    ap (λ (d : Draft). sort_in (names_for library (labels_view d.labels)) (sorts_seen d) inner.term) w.inside in
    inr (rw (w.is, w.form, sym same ∙ h) refl)

fault_at : (f : Frame) (library : Library) (whole : Trees) (outer inner : Begun) (e : TermFault)
    → Waits library whole f outer inner → HasFault library inner e → HasFault library outer e
fault_at (frame.Argument a left b) library whole = argument_fault library whole a left b
fault_at (frame.Binding b left distinct o) library whole = binding_fault library whole b left distinct o
fault_at (frame.Body b o) library whole = body_fault library b o
fault_at (frame.Labelled l) library whole = labelled_fault library whole l

pub link_fault : (library : Library) (whole : Trees) (f : Frame) (outer inner : Begun) (e : TermFault)
    → Link library whole f outer inner → HasFault library inner e → HasFault library outer e
link_fault library whole f outer inner e l h = fault_at f library whole outer l.part e l.waits (l.leads.fault e h)

-- the first fault of a part is that of the whole
pub fault_through : (library : Library) (whole : Trees) (fs : List Frame) (first inner : Begun) (e : TermFault)
    → Chain library whole fs first inner → HasFault library inner e → HasFault library first e
fault_through library whole [] first inner e c h = c.fault e h
fault_through library whole (f ∷ fs) first inner e c h =
    fault_through library whole fs first c.0 e c.2 (link_fault library whole f c.0 inner e c.1 h)

-- ---- stacks

-- a frame is pushed, and popped
pub pushed : (old new : List Frame) (f : Frame) → new ≡ old ++ f ∷ [] → reverse new ≡ f ∷ reverse old
pushed old new f is = ap reverse is ∙ reverse-append old (f ∷ [])

-- a term that gets labels, and uses no variable from outside, has its sort without any
sorted_alone : (library : Library) (whole : Trees) (l : Labelled) (outer inner : Begun) (last : Draft) (c : CheckedTerm)
    → LabelledWaits whole l outer inner → IsDone library inner last c → IsSortedUnlessOpen library c inner.term
sorted_alone library whole l outer inner last c w done = λ closed_term.
    let d = outer.draft in
    let inside : Draft = record d { base = length (seen_by d) } in
    let here : IsDone library (begun inner.term inner.around inside) last c =
    subst (λ (x : Draft). IsDone library (begun inner.term inner.around x) last c) w.inside done in
    let names = names_for library (labels_view d.labels) in
    closed (unlabelled names) (sorts_seen d) inner.term c.sort refl
    (sym (open_whole (seen_by d) (length (seen_by d)) refl inner.term) ∙ sym here.used ∙ closed_term)
    (kept-sort names (unlabelled names) (Keeps-unlabelled names) (sorts_seen d) inner.term c.sort here.sort)

-- the check of a part goes on when that of the part that it waits for is done
goes_at : (f : Frame) (library : Library) (whole : Trees) (outer inner : Begun) (last : Draft) (c : CheckedTerm)
    → Waits library whole f outer inner → IsDone library inner last c → MayGoOn library whole f last c
goes_at (frame.Argument a left b) library whole outer inner last c w done =
    since_within outer.draft last a.start (sorts_since outer.draft inner.draft) w.application.start
    (done.waiting.sorts ∙ w.so_far.waits.sorts)
goes_at (frame.Binding b left distinct o) library whole outer inner last c w done =
    since_within outer.draft last b.start (sorts_since outer.draft inner.draft) w.binder.start
    (done.waiting.sorts ∙ w.so_far.waits.sorts)
goes_at (frame.Body b o) library whole outer inner last c w done =
    since_within outer.draft last b.start (sorts_since outer.draft w.mid) w.start
    (done.waiting.sorts ∙ ap argument_sorts w.arguments ∙ w.so_far.waits.sorts)
goes_at (frame.Labelled l) library whole outer inner last c w done =
    (inner.term, w.attributes, w.lie, sorted_alone library whole l outer inner last c w done)

pub goes_on : (library : Library) (whole : Trees) (f : Frame) (outer inner : Begun) (last : Draft) (c : CheckedTerm)
    → Link library whole f outer inner → IsDone library inner last c → MayGoOn library whole f last c
goes_on library whole f outer inner last c l done =
    goes_at f library whole outer l.part last c l.waits (l.leads.done last c done)

-- ---- a part that has begun

part_same : (library : Library) (whole : Trees) (fs : List Frame) (first p : Begun) (term : Sexp) (around : ℕ)
    (d : Draft) → p.term ≡ term → p.around ≡ around → p.draft ≡ d → Chain library whole fs first p
    → Chain library whole fs first (begun term around d)
part_same library whole fs first p term around d is_term is_around is_draft chain =
    subst (λ (x : Draft). Chain library whole fs first (begun term around x)) is_draft
    (subst (λ (n : ℕ). Chain library whole fs first (begun term n p.draft)) is_around
    (subst (λ (t : Sexp). Chain library whole fs first (begun t p.around p.draft)) is_term chain))

-- it comes next, or was checked, or has a fault
pub begun_next : (r : Result Next TermFault) (library : Library) (whole : Trees) (fs : List Frame) (first p : Begun)
    (d : Draft) (term : Tree) (end : ℕ) → IfOk r (Begins library p d term end) → IfErr r (HasFault library p)
    → p.term ≡ sexp_of term → IsPlaced (seen_by p.draft) p.draft.base → IsListIn whole term end
    → Chain library whole fs first p
    → MatchResult r (IsNext library whole fs first d) (HasFault library first)
begun_next (Ok (Enter part)) library whole fs first p d term end b none is placed lies chain = record {
  trees = sexps_of b.parts;
  lie = record {
    part = b.parts;
    lies = subst (λ (n : ℕ). LiesIn whole b.parts n) (sym b.to)
        (subst (λ (t : Tree). IsListIn whole t end) b.is lies);
    from_is = b.from;
    are = refl;
  };
  placed = subst (λ (x : Draft). IsPlaced (seen_by x) x.base) (sym b.same) placed;
  chain = part_same library whole fs first p (Items (sexps_of b.parts)) part.around d (is ∙ ap sexp_of b.is)
      (sym b.around) (sym b.same) chain;
}
begun_next (Ok (Checked c)) library whole fs first p d term end done none is placed lies chain =
    record { inner = p; placed = placed; done = done; chain = chain }
begun_next (Err e) library whole fs first p d term end none fault is placed lies chain =
    fault_through library whole fs first p e chain fault

-- what is done at once comes next
pub done_next : (r : Result Next TermFault) (library : Library) (whole : Trees) (fs : List Frame) (first p : Begun)
    (d : Draft) → MatchResult r (IsDoneNext library p d) (HasFault library p)
    → IsPlaced (seen_by p.draft) p.draft.base → Chain library whole fs first p
    → MatchResult r (IsNext library whole fs first d) (HasFault library first)
done_next (Ok (Enter part)) library whole fs first p d done placed chain = absurd done
done_next (Ok (Checked c)) library whole fs first p d done placed chain =
    record { inner = p; placed = placed; done = done; chain = chain }
done_next (Err e) library whole fs first p d fault placed chain =
    fault_through library whole fs first p e chain fault

-- a list in the part comes next, and a frame waits for it
pub push_less : (fs new : List Frame) (f : Frame) (part : Part) (size : ℕ) → new ≡ f ∷ fs
    → place_behind (f ∷ fs) ≤ part.to → AreNested (f ∷ fs) → part.from < size
    → IsLess new (3 * size + 2 + 2 * length fs) (Enter part)
push_less fs new f part size is behind nested less =
    subst (λ (xs : List Frame). IsLess xs (3 * size + 2 + 2 * length fs) (Enter part)) (sym is)
    (record { nested = (behind, nested); less = omega arith })

-- ---- trees between two places

first_same : (x y : Sexp) (xs ys : Sexps) → Cons x xs ≡ Cons y ys → x ≡ y
first_same x y xs ys h = cc

rest_same : (x y : Sexp) (xs ys : Sexps) → Cons x xs ≡ Cons y ys → xs ≡ ys
rest_same x y xs ys h = cc

-- the trees that were found between two places are those that lie there
pub between_same : (whole result : Trees) (from to : ℕ) (trees : Sexps) (lie : Lie whole from to trees)
    → ((p : Trees) → LiesIn whole p to → from ≡ size_of p + to
    → (sexps_of result ≡ sexps_of p) × LiesIn whole result to × (size_of result ≡ size_of p))
    → (sexps_of result ≡ trees) × LiesIn whole result to
between_same whole result from to trees lie found =
    let same = found lie.part lie.lies lie.from_is in
    (same.0 ∙ lie.are, same.1)

pub split_same : (x y : Sexp) (xs ys all : Sexps) → all ≡ Cons x xs → all ≡ Cons y ys → (x ≡ y) × (xs ≡ ys)
split_same x y xs ys all first second =
    (first_same x y xs ys (sym first ∙ second), rest_same x y xs ys (sym first ∙ second))

-- all trees lie in themselves
pub whole_lies : (whole : Trees) → LiesIn whole whole 0
whole_lies whole =
    record { before = []; after = []; text = refl; cells = sym (append-nil whole.cells.now); end = refl }
