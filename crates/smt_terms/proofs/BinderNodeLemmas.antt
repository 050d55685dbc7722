-- Nodes of terms that bind variables, and of annotated ones.
use Rattle.std.proofs.Common.{◌≡◌, ◌<◌, ◌≤◌, ◌-◌, ◌+◌, ℕ, suc, Bool, true, false, ◌||◌, List, [], ◌∷◌, ◌++◌}
use Rattle.std.proofs.Common.{length, map, slice_get, Some, append_assoc, refl, ap, sym, ◌∙◌, subst, arith}
use Rattle.std.proofs.lemmas.List.{length-append, length-map}
use Rattle.smt_trees.specs.Sexp.{Sexp, Sexps, Atom, Reserved, Items, Nil, Cons, Symbol}
use Rattle.smt_trees.specs.declared.reserved.Word.TheVariants.{Bang, Let}
use Rattle.smt_forms.specs.Bindings.{named_trees}
use Rattle.smt_forms.specs.Labels.{labels_among}
use Rattle.smt_forms.specs.Variables.{uses_variable}
use Rattle.smt_nodes.specs.Node as node
use Rattle.smt_nodes.specs.Nodes.{rows_of}
use Rattle.smt_terms.specs.Denotes.{AreBound, Denotes, Slots, Table, slots_bound, slots_from}
use Rattle.smt_terms.specs.Denotes.{unless_labelled}
use Rattle.smt_terms.specs.Internal.Calls.{SeesTheSame, has_labels}
use Rattle.smt_terms.specs.Internal.DraftView.{Variables, inside, placed_from, seen_by, sorts_seen}
use Rattle.smt_terms.specs.Internal.NodesView.{AddsNode, BindingsStand, GrowsTo, Stands}
use Rattle.smt_terms.specs.Internal.NodesView.{nodes_given}
use Rattle.smt_terms.specs.Internal.LabelsView.{given_names, given_terms}
use Rattle.smt_terms.specs.Internal.TableView.{AreNamed, IsReady, names_of_definitions, places_seen, rows_in}
use Rattle.smt_terms.specs.Internal.TableView.{slots_seen, table_in}
use Rattle.smt_terms.specs.declared.labels.Label.{Label}
use Rattle.smt_terms.specs.declared.labels.Labels.{Labels}
use Rattle.smt_terms.specs.declared.library.Library.{Library}
use Rattle.smt_terms.specs.declared.library.draft.CheckedTerm.{CheckedTerm}
use Rattle.smt_terms.specs.declared.library.draft.Draft.{Draft}
use Rattle.smt_terms.proofs.CheckerLemmas.{Scope}
use Rattle.smt_terms.proofs.ClosedLemmas.{neither}
use Rattle.smt_terms.proofs.DenotesLemmas.{bound_kept, bound_later, denotes_kept}
use Rattle.smt_terms.proofs.DraftLemmas.{inside_none, names_of, no_labels, places_more, slots_more, uses_none}
use Rattle.smt_terms.proofs.LabelLemmas.{given_names_of}
use Rattle.smt_terms.proofs.NodeLemmas.{made_stands}
use Rattle.smt_terms.proofs.TableLemmas.{grows_on, grows_same, keeps_labels, keeps_on, named_kept, ready_kept}
use Rattle.smt_terms.proofs.TableLemmas.{grows_given}

-- ## Lets

-- as many nodes as there are bindings
bound_count : (t : Table) (slots : Slots) (next i : ℕ) (js : List ℕ) (bindings : Sexps)
    → AreBound t slots next i js bindings → length js ≡ length (named_trees bindings)
bound_count t slots next i [] Nil d = refl
bound_count t slots next i (j ∷ js) (Cons (Items (Cons (Atom Symbol x) (Cons term Nil))) rest) d =
    ap suc (bound_count t slots next i js rest d.2)
bound_count t slots next i _ _ d = absurd d

-- what the body of a `let` sees of the frame
module _ (d mid inner : Draft) (bindings : Sexps) (bound : Scope) (kept : SeesTheSame d mid)
    (within : d.base ≤ length (seen_by d))
    (more : seen_by inner ≡ placed_from (length (seen_by mid)) bound ++ seen_by mid)
    (base : inner.base ≡ mid.base) (named : names_of bound ≡ map (λ t. t.0) (named_trees bindings)) where
  more_seen : seen_by inner ≡ placed_from (length (seen_by d)) bound ++ seen_by d
  more_seen = more ∙ ap (λ (vs : Variables). placed_from (length vs) bound ++ vs) kept.variables

  slots_of_body : slots_seen inner ≡ slots_bound (places_seen d) bindings ++ slots_seen d
  slots_of_body =
      ap (λ (b : ℕ). map (λ v. (v.0, v.1.place - b)) (inside b (seen_by inner))) (base ∙ kept.base)
      ∙ slots_more d.base bound (seen_by d) (seen_by inner) within more_seen
      ∙ ap (λ (xs : List (List ℕ)). slots_from (places_seen d) xs ++ slots_seen d) named

  places_of_body : (js : List ℕ) → length js ≡ length (named_trees bindings)
      → places_seen inner ≡ places_seen d + length js
  places_of_body js counted =
      ap (λ (b : ℕ). length (seen_by inner) - b) (base ∙ kept.base)
      ∙ places_more d.base bound (seen_by d) (seen_by inner) within more_seen
      ∙ ap (λ (n : ℕ). places_seen d + n)
      (sym (counted ∙ sym (length-map (named_trees bindings) (λ t. t.0)) ∙ ap length (sym named)
      ∙ length-map bound (λ v. v.0)))

-- a `let` whose values stand for theirs, and its body for its own
pub let_stands : (library : Library) (d mid inner last cut new : Draft) (around : ℕ) (args bindings : Sexps)
    (body : Sexp) (bound : Scope) (js : List ℕ) (b : Bool) (checked c : CheckedTerm) → args ≡ Cons (Items bindings) (Cons body Nil)
    → SeesTheSame d mid → d.base ≤ length (seen_by d)
    → seen_by inner ≡ placed_from (length (seen_by mid)) bound ++ seen_by mid → inner.base ≡ mid.base
    → inner.labels ≡ mid.labels → inner.nodes ≡ mid.nodes → names_of bound ≡ map (λ t. t.0) (named_trees bindings)
    → GrowsTo d mid → BindingsStand library d mid bindings js b → GrowsTo inner last
    → Stands library inner last 0 body checked → cut.labels ≡ last.labels → cut.nodes ≡ last.nodes
    → GrowsTo cut new → AddsNode library.nodes cut new around (node.Let js checked.node) c → c.is_open ≡ (b || checked.is_open)
    → Stands library d new around (Items (Cons (Reserved Let) args)) c
let_stands library d mid inner last cut new around args bindings body bound js b checked c split kept within more base
    labels nodes named first values second inside_stands labels_cut nodes_cut third adds opened =
    subst (λ (ts : Sexps). Stands library d new around (Items (Cons (Reserved Let) ts)) c) (sym split)
    (made_stands library d cut new around (Items (Cons (Reserved Let) (Cons (Items bindings) (Cons body Nil))))
    (node.Let js checked.node) c to_cut
    (keeps_on library d last cut to_last
    (keeps_on library d inner last to_inner
    (keeps_on library d mid inner first values.named (keeps_labels library mid inner step labels))
    inside_stands.named) (keeps_labels library last cut step_cut labels_cut)) third adds
    (λ ready closed.
    let each = neither b checked.is_open (sym opened ∙ closed) in
    let t = table_in library new in
    let i = length (rows_in library cut) in
    let all = values.denote ready each.0 in
    let mid_new = grows_on mid last new (grows_on mid inner last step second) (grows_on last cut new step_cut third) in
    let counted = bound_count (table_in library mid) (slots_seen d) (places_seen d) (length (rows_in library mid)) js
    bindings all in (
      tt,
      λ is. (
        js,
        checked.node,
        is,
        bound_later t (slots_seen d) (places_seen d) (length (rows_in library mid)) i js bindings lower
            (bound_kept (table_in library mid) t (mid_new library) (slots_seen d) (places_seen d)
            (length (rows_in library mid)) js bindings all),
        omega (arith, inside_stands.number, ap (λ ns. length (rows_of library.nodes ++ rows_of ns)) nodes_cut),
        subst (λ (n : ℕ). Denotes t (slots_bound (places_seen d) bindings ++ slots_seen d) n 0 checked.node body)
            (places_of_body d mid inner bindings bound kept within more base named js counted)
            (subst (λ (ss : Slots). Denotes t ss (places_seen inner) 0 checked.node body)
            (slots_of_body d mid inner bindings bound kept within more base named)
            (denotes_kept (table_in library last) t (grows_on last cut new step_cut third library) (slots_seen inner)
            (places_seen inner) 0 checked.node body
            (inside_stands.denotes (ready_kept library d inner to_inner ready) each.1))),
      ),
    )))
  where
    step : GrowsTo mid inner
    step = grows_same mid inner labels nodes

    step_cut : GrowsTo last cut
    step_cut = grows_same last cut labels_cut nodes_cut

    to_inner : GrowsTo d inner
    to_inner = grows_on d mid inner first step

    to_last : GrowsTo d last
    to_last = grows_on d inner last to_inner second

    to_cut : GrowsTo d cut
    to_cut = grows_on d last cut to_last step_cut

    lower : length (rows_in library mid) ≤ length (rows_in library cut)
    lower =
        let longer = grows_on mid last cut (grows_on mid inner last step second) step_cut library in
        omega (arith, ap length longer.rows.1, length-append (rows_in library mid) longer.rows.0)

-- ## Annotated terms

-- what holds of a term without labels, and of one with some
bare_holds : (xs : List (List ℕ)) (bare : Type 0) (labelled : List ℕ → Type 0) → xs ≡ [] → bare
    → unless_labelled xs bare labelled
bare_holds [] bare labelled none h = h
bare_holds (x ∷ xs) bare labelled none h = cc

labelled_holds : (xs : List (List ℕ)) (bare : Type 0) (labelled : List ℕ → Type 0) → has_labels xs ≡ true
    → ((x : List ℕ) (rest : List (List ℕ)) → xs ≡ x ∷ rest → labelled x) → unless_labelled xs bare labelled
labelled_holds [] bare labelled some h = cc
labelled_holds (x ∷ xs) bare labelled some h = h x xs refl

-- one without labels: the node of the term in it keeps the annotation
pub annotated_stands : (library : Library) (d new : Draft) (around : ℕ) (args attributes : Sexps) (term : Sexp)
    (c : CheckedTerm) → args ≡ Cons term attributes → has_labels (labels_among attributes) ≡ false
    → Stands library d new (around + 1) term c → Stands library d new around (Items (Cons (Reserved Bang) args)) c
annotated_stands library d new around args attributes term c split none stands =
    subst (λ (ts : Sexps). Stands library d new around (Items (Cons (Reserved Bang) ts)) c) (sym split) (record {
      own = stands.own;
      number = stands.number;
      denotes = λ ready closed. bare_holds (labels_among attributes) _ _ (no_labels (labels_among attributes) none)
          (stands.denotes ready closed);
      named = stands.named;
    })

-- ## Labelled terms

at_seam : {A : Type 0} (xs : List A) (y : A) (ys : List A) → slice_get (xs ++ y ∷ ys) (length xs) ≡ Some y
at_seam [] y ys = refl
at_seam (x ∷ xs) y ys = at_seam xs y ys

-- what is seen of the first label that is given, behind what is seen of the others
first_given : {A : Type 0} (f : Label → A) (before : List A) (old new : List Label) (y : A) (ys : List A)
    → map f new ≡ map f old ++ y ∷ ys → slice_get (before ++ map f new) (length before + length old) ≡ Some y
first_given {A = A} f before old new y ys more =
    ap (λ (zs : List A). slice_get (before ++ zs) (length before + length old)) more
    ∙ ap (λ (zs : List A). slice_get zs (length before + length old)) (sym (append_assoc before (map f old) (y ∷ ys)))
    ∙ ap (λ (k : ℕ). slice_get ((before ++ map f old) ++ y ∷ ys) k)
    (sym (length-append before (map f old) ∙ ap (λ (k : ℕ). length before + k) (length-map old f)))
    ∙ at_seam (before ++ map f old) y ys

-- its body
first_body : (bodies : List ℕ) (old new : Labels) (n : ℕ) (xs : List (List ℕ)) → has_labels xs ≡ true
    → nodes_given new ≡ nodes_given old ++ map (λ x. n) xs
    → slice_get (bodies ++ nodes_given new) (length bodies + length old.given.items) ≡ Some n
first_body bodies old new n [] some more = cc
first_body bodies old new n (x ∷ xs) some more =
    first_given (λ l. l.node) bodies old.given.items new.given.items n (map (λ y. n) xs) more

-- a term with labels, the first of which names it
pub labelled_stands : (library : Library) (d inner mid given new : Draft) (around : ℕ) (term : Sexp)
    (attributes : Sexps) (place : ℕ) (checked c : CheckedTerm) (more : List Label) → inner.labels ≡ d.labels → inner.nodes ≡ d.nodes
    → inner.base ≡ length (seen_by inner) → GrowsTo inner mid → Stands library inner mid 0 term checked
    → checked.is_open ≡ false → uses_variable (sorts_seen d) term ≡ false
    → place ≡ length library.bodies.items + length mid.labels.given.items
    → has_labels (labels_among attributes) ≡ true → given.nodes ≡ mid.nodes
    → given.labels.given.items ≡ mid.labels.given.items ++ more
    → given_terms given.labels ≡ given_terms mid.labels ++ map (λ x. (x, term)) (labels_among attributes)
    → nodes_given given.labels ≡ nodes_given mid.labels ++ map (λ x. checked.node) (labels_among attributes)
    → ((t : Table) → AreNamed t mid.labels.given.items → Denotes t [] 0 0 checked.node term
    → AreNamed t given.labels.given.items)
    → GrowsTo given new → AddsNode library.nodes given new around (node.Defined place []) c
    → Stands library d new around (Items (Cons (Reserved Bang) (Cons term attributes))) c
labelled_stands library d inner mid given new around term attributes place checked c more labels nodes base first stands
    closed unused is_place some same_nodes longer terms bodies named last adds =
    made_stands library d given new around (Items (Cons (Reserved Bang) (Cons term attributes))) (node.Defined place []) c
    to_given
    (λ ready is. named (table_in library given)
    (named_kept (table_in library mid) (table_in library given) (step library) mid.labels.given.items
    (stands.named (to_inner_ready ready) (keeps_labels library d inner to_inner labels ready is)))
    (body given step ready)) last adds
    (λ ready outer_closed. (
      (checked.node, at given refl, below),
      λ is. labelled_holds (labels_among attributes) _ _ some (λ label rest split. (
        uses_none (seen_by d) d.base term unused,
        (
          place,
          checked.node,
          name_at label rest split,
          is.0,
          at new adds.labels,
          below,
          body new (grows_on mid given new step last) ready,
        ),
      )),
    ))
  where
    to_inner : GrowsTo d inner
    to_inner = grows_same d inner labels nodes

    step : GrowsTo mid given
    step = grows_given mid given more same_nodes longer

    to_given : GrowsTo d given
    to_given = grows_on d mid given (grows_on d inner mid to_inner first) step

    to_inner_ready : IsReady (table_in library d) → IsReady (table_in library inner)
    to_inner_ready ready = ready_kept library d inner to_inner ready

    below : checked.node < length (rows_in library given)
    below = omega (arith, stands.number, ap (λ ns. length (rows_of library.nodes ++ rows_of ns)) same_nodes)

    no_slots : slots_seen inner ≡ []
    no_slots =
        ap (λ (b : ℕ). map (λ v. (v.0, v.1.place - inner.base)) (inside b (seen_by inner))) base
        ∙ ap (λ (vs : Variables). map (λ v. (v.0, v.1.place - inner.base)) vs) (inside_none (seen_by inner))

    no_places : places_seen inner ≡ 0
    no_places = omega (arith, base)

    body : (u : Draft) → GrowsTo mid u → IsReady (table_in library d)
        → Denotes (table_in library u) [] 0 0 checked.node term
    body u longer ready =
        denotes_kept (table_in library mid) (table_in library u) (longer library) [] 0 0 checked.node term
        (subst (λ (n : ℕ). Denotes (table_in library mid) [] n 0 checked.node term) no_places
        (subst (λ (ss : Slots). Denotes (table_in library mid) ss (places_seen inner) 0 checked.node term) no_slots
        (stands.denotes (to_inner_ready ready) closed)))

    at : (u : Draft) → u.labels ≡ given.labels → slice_get (table_in library u).bodies place ≡ Some checked.node
    at u same =
        ap (λ (k : ℕ). slice_get (library.bodies.items ++ nodes_given u.labels) k) is_place
        ∙ first_body library.bodies.items mid.labels u.labels checked.node (labels_among attributes) some
        (ap nodes_given same ∙ bodies)

    name_at : (label : List ℕ) (rest : List (List ℕ)) → labels_among attributes ≡ label ∷ rest
        → slice_get (table_in library new).names place ≡ Some label
    name_at label rest split =
        let before = names_of_definitions library.definitions.items in
        let paired : length library.bodies.items ≡ length before =
        library.paired ∙ sym (length-map library.definitions.items (λ d. d.name.items)) in
        ap (λ (k : ℕ). slice_get (before ++ given_names new.labels) k)
        (is_place ∙ ap (λ (k : ℕ). k + length mid.labels.given.items) paired)
        ∙ first_given (λ l. l.name.items) before mid.labels.given.items new.labels.given.items label rest
        (ap given_names adds.labels ∙ given_names_of mid.labels given.labels (labels_among attributes) term terms
        ∙ ap (λ (xs : List (List ℕ)). given_names mid.labels ++ xs) split)
