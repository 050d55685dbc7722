-- Terms that are checked whole: no variable stands outside.
use Rattle.std.proofs.Common.{◌≡◌, ◌-◌, ℕ, ◌||◌, not, ◌&&◌, Bool, true, false, List, [], ◌∷◌, ◌++◌, length, map}
use Rattle.std.proofs.Common.{drop, Result, Ok, Err, IfOk, OnOk, append-nil, refl, ap, sym, ◌∙◌, subst, arith}
use Rattle.std.proofs.lemmas.List.{length-append}
use Rattle.smt_trees.specs.Sexp.{Sexp, Sexps, Atom, Reserved, Items, Nil, Cons, Symbol, Keyword, Numeral}
use Rattle.smt_trees.specs.Sexp.{Decimal, Hexadecimal, Binary, Text}
use Rattle.smt_trees.specs.declared.reserved.Word.TheVariants.{As, Bang, Let, Underscore}
use Rattle.smt_forms.specs.Bindings.{named_trees}
use Rattle.smt_forms.specs.Variables.{any_uses_outer, bindings_use_outer, is_among, uses_outer}
use Rattle.smt_terms.specs.Checking.{sort_in}
use Rattle.smt_terms.specs.Denotes.{Denotes, Slots, slots_from}
use Rattle.smt_terms.specs.Internal.DraftView.{IsPlaced, Variables, inside, is_open, names_inside, outside}
use Rattle.smt_terms.specs.Internal.DraftView.{placed_from, seen_by, sorts_of, sorts_seen}
use Rattle.smt_terms.specs.Internal.LabelsView.{labels_view}
use Rattle.smt_terms.specs.Internal.LibraryView.{names_for}
use Rattle.smt_terms.specs.Internal.NodesView.{KeepsNamed, Stands}
use Rattle.smt_terms.specs.Internal.TableView.{IsReady, places_seen, slots_seen, table_in}
use Rattle.smt_terms.specs.declared.library.Library.{Library}
use Rattle.smt_terms.specs.declared.library.draft.CheckedTerm.{CheckedTerm}
use Rattle.smt_terms.specs.declared.library.draft.Draft.{Draft}
use Rattle.smt_terms.proofs.CheckerLemmas.{Scope}
use Rattle.smt_terms.proofs.DraftLemmas.{bound_sorts, length-placed, names_of, placed_more, placed_none, slots_more}
use Rattle.smt_terms.proofs.TableLemmas.{grows_same, keeps_labels, keeps_on, ready_kept}

-- ## Nothing outside

and_false : (b : Bool) → (b && false) ≡ false
and_false true = refl
and_false false = refl

-- where no variable stands outside, a term uses none
mutual
  none_used : (xs : List (List ℕ)) (t : Sexp) → uses_outer xs [] t ≡ false
  none_used xs (Atom Symbol x) = and_false (not (is_among xs x))
  none_used xs (Atom Keyword x) = refl
  none_used xs (Atom Numeral x) = refl
  none_used xs (Atom Decimal x) = refl
  none_used xs (Atom Hexadecimal x) = refl
  none_used xs (Atom Binary x) = refl
  none_used xs (Atom Text x) = refl
  none_used xs (Reserved word) = refl
  none_used xs (Items Nil) = refl
  none_used xs (Items (Cons (Reserved Underscore) parts)) = refl
  none_used xs (Items (Cons (Reserved As) parts)) = refl
  none_used xs (Items (Cons (Reserved Let) (Cons (Items bindings) (Cons body Nil)))) =
      ap (λ (b : Bool). b || uses_outer (map (λ t. t.0) (named_trees bindings) ++ xs) [] body)
      (none_bound xs bindings) ∙ none_used (map (λ t. t.0) (named_trees bindings) ++ xs) body
  none_used xs (Items (Cons (Reserved Bang) (Cons term attributes))) = none_used xs term
  none_used xs (Items (Cons head args)) = none_of xs args

  none_of : (xs : List (List ℕ)) (ts : Sexps) → any_uses_outer xs [] ts ≡ false
  none_of xs Nil = refl
  none_of xs (Cons t ts) = ap (λ (b : Bool). b || any_uses_outer xs [] ts) (none_used xs t) ∙ none_of xs ts

  none_bound : (xs : List (List ℕ)) (ts : Sexps) → bindings_use_outer xs [] ts ≡ false
  none_bound xs (Cons (Items (Cons (Atom Symbol x) (Cons term Nil))) rest) =
      ap (λ (b : Bool). b || bindings_use_outer xs [] rest) (none_used xs term) ∙ none_bound xs rest
  none_bound xs _ = refl

all_dropped : (vs : Variables) → outside 0 vs ≡ []
all_dropped vs = ap (λ (n : ℕ). drop n vs) whole ∙ past vs
  where
    whole : length vs - 0 ≡ length vs
    whole = omega arith

    past : (ws : Variables) → drop (length ws) ws ≡ []
    past [] = refl
    past (w ∷ ws) = past ws

pub whole_closed : (d : Draft) (t : Sexp) → d.base ≡ 0 → is_open d t ≡ false
whole_closed d t base =
    ap (λ (vs : Variables). uses_outer (names_inside d) (sorts_of vs) t)
    (ap (λ (b : ℕ). outside b (seen_by d)) base ∙ all_dropped (seen_by d))
    ∙ none_used (names_inside d) t

-- ## Variables of a whole term

module _ (d inner : Draft) (bound : Scope) (none : seen_by d ≡ []) (zero_base : d.base ≡ 0)
    (more : seen_by inner ≡ placed_from (length (seen_by d)) bound ++ seen_by d) (base : inner.base ≡ d.base) where
  seen_whole : seen_by inner ≡ placed_from 0 bound ++ []
  seen_whole = more ∙ ap (λ (vs : Variables). placed_from (length vs) bound ++ vs) none

  whole_slots : slots_seen inner ≡ slots_from 0 (names_of bound)
  whole_slots =
      ap (λ (b : ℕ). map (λ v. (v.0, v.1.place - b)) (inside b (seen_by inner))) (base ∙ zero_base)
      ∙ slots_more 0 bound [] (seen_by inner) (omega arith) seen_whole
      ∙ append-nil (slots_from 0 (names_of bound))

  whole_places : places_seen inner ≡ length bound
  whole_places = omega (
    arith,
    base,
    zero_base,
    ap length seen_whole,
    length-append (placed_from 0 bound) [],
    length-placed 0 bound,
  )

  pub whole_placed : IsPlaced (seen_by inner) inner.base
  whole_placed =
      subst (λ (n : ℕ). IsPlaced (seen_by inner) n) (sym (base ∙ zero_base))
      (placed_more 0 bound (seen_by d) (seen_by inner) (placed_none (seen_by d) none) more)

  pub whole_sort : (library : Library) (t : Sexp) → inner.labels ≡ d.labels
      → sort_in (names_for library (labels_view d.labels)) bound t
      ≡ sort_in (names_for library (labels_view inner.labels)) (sorts_seen inner) t
  whole_sort library t labels =
      ap (λ ls. sort_in (names_for library (labels_view ls)) bound t) (sym labels)
      ∙ ap (λ (vs : Scope). sort_in (names_for library (labels_view inner.labels)) vs t)
      (sym (bound_sorts (length (seen_by d)) bound [] (seen_by d) (seen_by inner) more (ap sorts_of none)
      ∙ append-nil bound))

  -- the node that is found over the variables stands for the term
  pub whole_denotes : (library : Library) (new : Draft) (t : Sexp) (c : CheckedTerm) → inner.labels ≡ d.labels
      → inner.nodes ≡ d.nodes → c.is_open ≡ is_open inner t → Stands library inner new 0 t c
      → IsReady (table_in library d)
      → Denotes (table_in library new) (slots_from 0 (names_of bound)) (length bound) 0 c.node t
  whole_denotes library new t c labels nodes opened stands ready =
      subst (λ (n : ℕ). Denotes (table_in library new) (slots_from 0 (names_of bound)) n 0 c.node t) whole_places
      (subst (λ (ss : Slots). Denotes (table_in library new) ss (places_seen inner) 0 c.node t) whole_slots
      (stands.denotes (ready_kept library d inner (grows_same d inner labels nodes) ready)
      (opened ∙ whole_closed inner t (base ∙ zero_base))))

-- ## Answers

-- what follows of any answer
pub on_answered : {T E : Type 0} (r : Result T E) (P : T → Type 0) (Q : Type 0) → ((v : T) → P v → Q) → IfOk r P
    → OnOk r Q
on_answered (Ok v) P Q f h = f v h
on_answered (Err e) P Q f h = h

-- labels stand for their terms behind the variables too
pub whole_named : (library : Library) (d inner new : Draft) (t : Sexp) (c : CheckedTerm) → inner.labels ≡ d.labels
    → inner.nodes ≡ d.nodes → Stands library inner new 0 t c → KeepsNamed library d new
whole_named library d inner new t c labels nodes stands =
    keeps_on library d inner new (grows_same d inner labels nodes)
    (keeps_labels library d inner (grows_same d inner labels nodes) labels) stands.named
