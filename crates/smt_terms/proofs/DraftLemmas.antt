-- The variables that a term sees while it is checked, those inside and those outside.
use Rattle.std.proofs.Common.{◌≡◌, ◌≤◌, ◌<◌, ◌-◌, ℕ, zero, suc, ◌+◌, Bool, true, false, cond, not, ◌&&◌, ◌||◌}
use Rattle.std.proofs.Common.{List, [], ◌∷◌, ◌++◌, map, length, take, drop, Option, Some, None, is_some}
use Rattle.std.proofs.Common.{option_map, refl, ap, sym, ◌∙◌, arith, subst, nat_lt, Result, Ok, Err, IfOk, inl, inr}
use Rattle.std.specs.Str.{bytes_eq}
use Rattle.std.proofs.lemmas.Bool.{le-ltb, lt-ltb}
use Rattle.std.proofs.lemmas.List.{length-append, map-append, take-append-drop}
use Rattle.std.proofs.Math.Seq.{drop-append_seam, take-append-add, drop-append-add}
use Rattle.smt_trees.specs.Sexp.{Sexp, Sexps, Atom, Reserved, Items, Nil, Cons, Symbol, Keyword, Numeral}
use Rattle.smt_trees.specs.Sexp.{Decimal, Hexadecimal, Binary, Text}
use Rattle.smt_trees.specs.declared.reserved.Word.TheVariants.{As, Bang, Let, Underscore}
use Rattle.smt_theory.specs.Words.{look_up, result_and_then}
use Rattle.smt_theory.specs.Sort.{Sort}
use Rattle.smt_theory.specs.Sort.{Boolean}
use Rattle.smt_forms.specs.Bindings.{are_attributes, are_bindings, named_trees}
use Rattle.smt_forms.specs.Labels.{labels_among, labels_in, labels_in_bindings}
use Rattle.smt_forms.specs.Variables.{any_uses_outer, bindings_use_outer, is_among, uses_outer, uses_variable}
use Rattle.smt_faults.specs.Outcome.{IsOutcome, Tells}
use Rattle.smt_faults.specs.declared.term_fault.TermFault.{TermFault}
use Rattle.smt_faults.specs.declared.term_flaw.TermFlaw.{TermFlaw}
use Rattle.smt_faults.specs.declared.term_flaw.TermFlaw.TheVariants.{Label}
use Rattle.smt_terms.specs.Internal.SoFar.{IsPlainHead}
use Rattle.smt_terms.specs.Denotes.{UsesNone, slots_from}
use Rattle.smt_terms.specs.Checking.{bound_in, flaw_of_label, flaw_of_labels, sort_in, unless}
use Rattle.smt_terms.specs.Freshness.{NewLabel, where_fresh}
use Rattle.smt_terms.specs.Internal.LabelsView.{AreGiven, given_names, labels_view}
use Rattle.smt_terms.specs.Internal.LibraryView.{names_for, names_of_library}
use Rattle.smt_terms.specs.Labels as spec
use Rattle.smt_terms.specs.Signature.{Names, behind}
use Rattle.smt_terms.specs.declared.labels.Labels.{Labels}
use Rattle.smt_terms.specs.declared.library.Library.{Library}
use Rattle.smt_terms.specs.declared.library.draft.CheckedTerm.{CheckedTerm}
use Rattle.smt_terms.proofs.BinderLemmas.{bang_in, bang_with_parts, let_in, let_of_body}
use Rattle.smt_terms.proofs.LabelLemmas.{names_behind, or_none}
use Rattle.smt_terms.specs.Internal.DraftView.{AreBelow, AreFrom, IsPlaced, Variables, inside, outside}
use Rattle.smt_terms.specs.Internal.Calls.{SeesTheSame, has_labels}
use Rattle.smt_terms.specs.Internal.DraftView.{are_open, are_open_bindings, is_open, names_inside, placed_from}
use Rattle.smt_terms.specs.Internal.DraftView.{seen_by, sorts_of, sorts_outside, sorts_seen}
use Rattle.smt_terms.specs.declared.library.draft.Bound.{Bound}
use Rattle.smt_terms.specs.declared.library.draft.Draft.{Draft}
use Rattle.smt_forms.specs.Heads.{begins_annotated, begins_indexed, begins_let, begins_qualified}
use Rattle.smt_terms.proofs.CheckerLemmas.{Scope}

-- the names of variables
abbrev pub names_of : {A : Type 0} → List (List ℕ × A) → List (List ℕ)
names_of vs = map (λ v. v.0) vs

-- ## Variables with their places

pub sorts-placed : (n : ℕ) (vs : Scope) → sorts_of (placed_from n vs) ≡ vs
sorts-placed n [] = refl
sorts-placed n (v ∷ vs) = ap (λ (ws : Scope). v ∷ ws) (sorts-placed (n + 1) vs)

pub names-placed : (n : ℕ) (vs : Scope) → names_of (placed_from n vs) ≡ names_of vs
names-placed n [] = refl
names-placed n (v ∷ vs) = ap (λ (xs : List (List ℕ)). v.0 ∷ xs) (names-placed (n + 1) vs)

pub length-placed : (n : ℕ) (vs : Scope) → length (placed_from n vs) ≡ length vs
length-placed n [] = refl
length-placed n (v ∷ vs) = ap suc (length-placed (n + 1) vs)

pub length-sorts : (vs : Variables) → length (sorts_of vs) ≡ length vs
length-sorts [] = refl
length-sorts (v ∷ vs) = ap suc (length-sorts vs)

all_placed : (n m : ℕ) (vs : Scope) → n + length vs ≤ m → AreBelow m (placed_from n vs)
all_placed n m [] h = tt
all_placed n m (v ∷ vs) h = (omega arith, all_placed (n + 1) m vs (omega arith))

all_from : (b n : ℕ) (vs : Scope) → b ≤ n → AreFrom b (placed_from n vs)
all_from b n [] h = tt
all_from b n (v ∷ vs) h = (h, all_from b (n + 1) vs (omega arith))

all_weaker : (m n : ℕ) (vs : Variables) → m ≤ n → AreBelow m vs → AreBelow n vs
all_weaker m n [] h all = tt
all_weaker m n (v ∷ vs) h all = (omega (arith, all.0), all_weaker m n vs h all.1)

below-append : (n : ℕ) (xs ys : Variables) → AreBelow n xs → AreBelow n ys → AreBelow n (xs ++ ys)
below-append n [] ys h g = g
below-append n (x ∷ xs) ys h g = (h.0, below-append n xs ys h.1 g)

from-append : (n : ℕ) (xs ys : Variables) → AreFrom n xs → AreFrom n ys → AreFrom n (xs ++ ys)
from-append n [] ys h g = g
from-append n (x ∷ xs) ys h g = (h.0, from-append n xs ys h.1 g)

-- ## Inside and outside

-- more variables stand inside
inside_more : (b : ℕ) (more old : Variables) → b ≤ length old → inside b (more ++ old) ≡ more ++ inside b old
inside_more b more old h =
    let len : length (more ++ old) - b ≡ length more + (length old - b) =
    omega (arith, length-append more old) in
    ap (λ (n : ℕ). take n (more ++ old)) len ∙ take-append-add more old (length old - b)

outside_more : (b : ℕ) (more old : Variables) → b ≤ length old → outside b (more ++ old) ≡ outside b old
outside_more b more old h =
    let len : length (more ++ old) - b ≡ length more + (length old - b) =
    omega (arith, length-append more old) in
    ap (λ (n : ℕ). drop n (more ++ old)) len ∙ drop-append-add more old (length old - b)

-- variables that are bound
pub placed_more : (b : ℕ) (vs : Scope) (old new : Variables) → IsPlaced old b
    → new ≡ placed_from (length old) vs ++ old → IsPlaced new b
placed_more b vs old new is more =
    let len : length new ≡ length vs + length old =
    ap (λ (xs : Variables). length xs) more ∙ length-append (placed_from (length old) vs) old
    ∙ ap (λ (n : ℕ). n + length old) (length-placed (length old) vs) in
    record {
      within = omega (arith, is.within);
      all = subst (λ (xs : Variables). AreBelow (length new) xs) (sym more)
          (below-append (length new) (placed_from (length old) vs) old (all_placed (length old) (length new) vs (omega arith))
          (all_weaker (length old) (length new) old (omega arith) is.all));
      inner = subst (λ (xs : Variables). AreFrom b xs)
          (sym (ap (inside b) more ∙ inside_more b (placed_from (length old) vs) old is.within))
          (from-append b (placed_from (length old) vs) (inside b old) (all_from b (length old) vs is.within)
          is.inner);
      outer = subst (λ (xs : Variables). AreBelow b xs)
          (sym (ap (outside b) more ∙ outside_more b (placed_from (length old) vs) old is.within)) is.outer;
    }

-- none stands inside
pub inside_none : (vs : Variables) → inside (length vs) vs ≡ []
inside_none vs = ap (λ (n : ℕ). take n vs) (zero_left (length vs))
  where
    zero_left : (n : ℕ) → n - n ≡ zero
    zero_left n = omega arith

pub outside_all : (vs : Variables) → outside (length vs) vs ≡ vs
outside_all vs = ap (λ (n : ℕ). drop n vs) (zero_left (length vs))
  where
    zero_left : (n : ℕ) → n - n ≡ zero
    zero_left n = omega arith

pub placed_outside : (b : ℕ) (vs : Variables) → IsPlaced vs b → IsPlaced vs (length vs)
placed_outside b vs is = record {
  within = omega arith;
  all = is.all;
  inner = subst (λ (xs : Variables). AreFrom (length vs) xs) (sym (inside_none vs)) tt;
  outer = subst (λ (xs : Variables). AreBelow (length vs) xs) (sym (outside_all vs)) is.all;
}

-- no variables
pub placed_none : (vs : Variables) → vs ≡ [] → IsPlaced vs 0
placed_none vs none = subst (λ (ws : Variables). IsPlaced ws 0) (sym none)
    (record { within = omega arith; all = tt; inner = tt; outer = tt })

-- ## Look-ups

-- among the first, or else behind
look_up-behind : {A : Type 0} (xs ys : List (List ℕ × A)) (x : List ℕ) → look_up xs x ≡ None
    → look_up (xs ++ ys) x ≡ look_up ys x
look_up-behind [] ys x h = refl
look_up-behind {A = A} (v ∷ xs) ys x h = by (bytes_eq x v.0) h (look_up-behind xs ys x)
  where
    by : (b : Bool) → cond b (Some v.1) (look_up xs x) ≡ None
        → (look_up xs x ≡ None → look_up (xs ++ ys) x ≡ look_up ys x)
        → cond b (Some v.1) (look_up (xs ++ ys) x) ≡ look_up ys x
    by true g rest = cc
    by false g rest = rest g

look_up-first : {A : Type 0} (xs ys : List (List ℕ × A)) (x : List ℕ) (a : A) → look_up xs x ≡ Some a
    → look_up (xs ++ ys) x ≡ Some a
look_up-first [] ys x a h = cc
look_up-first {A = A} (v ∷ xs) ys x a h = by (bytes_eq x v.0) h (look_up-first xs ys x a)
  where
    by : (b : Bool) → cond b (Some v.1) (look_up xs x) ≡ Some a
        → (look_up xs x ≡ Some a → look_up (xs ++ ys) x ≡ Some a)
        → cond b (Some v.1) (look_up (xs ++ ys) x) ≡ Some a
    by true g rest = g
    by false g rest = rest g

pub look_up-sorts : (vs : Variables) (x : List ℕ) → look_up (sorts_of vs) x ≡ option_map (λ b. b.sort) (look_up vs x)
look_up-sorts [] x = refl
look_up-sorts (v ∷ vs) x = by (bytes_eq x v.0) (look_up-sorts vs x)
  where
    by : (b : Bool) → look_up (sorts_of vs) x ≡ option_map (λ (c : Bound). c.sort) (look_up vs x)
        → cond b (Some v.1.sort) (look_up (sorts_of vs) x)
        ≡ option_map (λ (c : Bound). c.sort) (cond b (Some v.1) (look_up vs x))
    by true h = refl
    by false h = h

pub among : {A : Type 0} (vs : List (List ℕ × A)) (x : List ℕ) → is_among (names_of vs) x ≡ is_some (look_up vs x)
among [] x = refl
among {A = A} (v ∷ vs) x = by (bytes_eq x v.0) (among vs x)
  where
    by : (b : Bool) → is_among (names_of vs) x ≡ is_some (look_up vs x)
        → (b || is_among (names_of vs) x) ≡ is_some (cond b (Some v.1) (look_up vs x))
    by true h = refl
    by false h = h

-- what holds of all holds of the one that is found
found_below : (m : ℕ) (vs : Variables) (x : List ℕ) (b : Bound) → AreBelow m vs
    → look_up vs x ≡ Some b → b.place < m
found_below m [] x b all h = cc
found_below m (v ∷ vs) x b all h = by (bytes_eq x v.0) h (found_below m vs x b all.1)
  where
    by : (c : Bool) → cond c (Some v.1) (look_up vs x) ≡ Some b → (look_up vs x ≡ Some b → b.place < m)
        → b.place < m
    by true g rest = let same : v.1 ≡ b = cc in subst (λ (w : Bound). w.place < m) same all.0
    by false g rest = rest g

found_from : (m : ℕ) (vs : Variables) (x : List ℕ) (b : Bound) → AreFrom m vs
    → look_up vs x ≡ Some b → m ≤ b.place
found_from m [] x b all h = cc
found_from m (v ∷ vs) x b all h = by (bytes_eq x v.0) h (found_from m vs x b all.1)
  where
    by : (c : Bool) → cond c (Some v.1) (look_up vs x) ≡ Some b → (look_up vs x ≡ Some b → m ≤ b.place)
        → m ≤ b.place
    by true g rest = let same : v.1 ≡ b = cc in subst (λ (w : Bound). m ≤ w.place) same all.0
    by false g rest = rest g

-- ## Symbols

-- whether a symbol uses a variable from outside, where these are seen
abbrev pub open_symbol : Variables → ℕ → List ℕ → Bool
open_symbol vs base x =
    not (is_among (names_of (inside base vs)) x) && is_some (look_up (sorts_of (outside base vs)) x)

sorted_some : (o : Option Bound) → is_some (option_map (λ (b : Bound). b.sort) o) ≡ is_some o
sorted_some None = refl
sorted_some (Some b) = refl

-- a variable is found among sorts where it is found
pub found_sorts : (vs : Variables) (x : List ℕ)
    → is_some (look_up (sorts_of vs) x) ≡ is_some (look_up vs x)
found_sorts vs x = ap is_some (look_up-sorts vs x) ∙ sorted_some (look_up vs x)

open_by : (vs : Variables) (base : ℕ) (x : List ℕ)
    → open_symbol vs base x
    ≡ not (is_some (look_up (inside base vs) x)) && is_some (look_up (outside base vs) x)
open_by vs base x =
    ap (λ (b : Bool). not b && is_some (look_up (sorts_of (outside base vs)) x)) (among (inside base vs) x)
    ∙ ap (λ (b : Bool). not (is_some (look_up (inside base vs) x)) && b)
    (found_sorts (outside base vs) x)

-- one that is no variable
pub open-none : (vs : Variables) (base : ℕ) (x : List ℕ) → look_up vs x ≡ None
    → open_symbol vs base x ≡ false
open-none vs base x h =
    open_by vs base x ∙ by (look_up (inside base vs) x) refl (look_up (outside base vs) x) refl
  where
    whole : look_up (inside base vs ++ outside base vs) x ≡ None
    whole = ap (λ (ws : Variables). look_up ws x) (take-append-drop (length vs - base) vs) ∙ h

    by : (i : Option Bound) → look_up (inside base vs) x ≡ i
        → (o : Option Bound) → look_up (outside base vs) x ≡ o → not (is_some i) && is_some o ≡ false
    by (Some b) is o out = refl
    by None is None out = refl
    by None is (Some b) out =
        let now = sym (look_up-behind (inside base vs) (outside base vs) x is) ∙ whole in cc

-- and one that is
pub open-some : (vs : Variables) (base : ℕ) (x : List ℕ) (b : Bound) → IsPlaced vs base
    → look_up vs x ≡ Some b → nat_lt b.place base ≡ open_symbol vs base x
open-some vs base x b is h =
    by (look_up (inside base vs) x) refl (look_up (outside base vs) x) refl ∙ sym (open_by vs base x)
  where
    whole : look_up (inside base vs ++ outside base vs) x ≡ Some b
    whole = ap (λ (ws : Variables). look_up ws x) (take-append-drop (length vs - base) vs) ∙ h

    by : (i : Option Bound) → look_up (inside base vs) x ≡ i
        → (o : Option Bound) → look_up (outside base vs) x ≡ o
        → nat_lt b.place base ≡ (not (is_some i) && is_some o)
    by (Some c) here o out =
        let now = sym (look_up-first (inside base vs) (outside base vs) x c here) ∙ whole in
        let same : c ≡ b = cc in
        let from : base ≤ c.place = found_from base (inside base vs) x c is.inner here in
        let large : nat_lt c.place base ≡ false = le-ltb c.place base from in
        ap (λ (d : Bound). nat_lt d.place base) (sym same) ∙ large
    by None here None out =
        let now = sym (look_up-behind (inside base vs) (outside base vs) x here) ∙ whole in cc
    by None here (Some c) out =
        let now = sym (look_up-behind (inside base vs) (outside base vs) x here) ∙ whole in
        let same : c ≡ b = cc in
        let below : c.place < base = found_below base (outside base vs) x c is.outer out in
        let small : nat_lt c.place base ≡ true = lt-ltb c.place base below in
        ap (λ (d : Bound). nat_lt d.place base) (sym same) ∙ small

-- ## Places in a frame

-- what is seen of the places of variables
look_up-places : (base : ℕ) (vs : Variables) (x : List ℕ)
    → look_up (map (λ v. (v.0, v.1.place - base)) vs) x ≡ option_map (λ b. b.place - base) (look_up vs x)
look_up-places base [] x = refl
look_up-places base (v ∷ vs) x = by (bytes_eq x v.0) (look_up-places base vs x)
  where
    by : (b : Bool)
        → look_up (map (λ w. (w.0, w.1.place - base)) vs) x
        ≡ option_map (λ (c : Bound). c.place - base) (look_up vs x)
        → cond b (Some (v.1.place - base)) (look_up (map (λ w. (w.0, w.1.place - base)) vs) x)
        ≡ option_map (λ (c : Bound). c.place - base) (cond b (Some v.1) (look_up vs x))
    by true h = refl
    by false h = h

-- a variable that stands inside has a slot
pub slot_inside : (vs : Variables) (base : ℕ) (x : List ℕ) (b : Bound) → IsPlaced vs base
    → look_up vs x ≡ Some b → nat_lt b.place base ≡ false
    → look_up (map (λ v. (v.0, v.1.place - base)) (inside base vs)) x ≡ Some (b.place - base)
slot_inside vs base x b is h inner =
    look_up-places base (inside base vs) x ∙ by (look_up (inside base vs) x) refl
  where
    whole : look_up (inside base vs ++ outside base vs) x ≡ Some b
    whole = ap (λ (ws : Variables). look_up ws x) (take-append-drop (length vs - base) vs) ∙ h

    by : (o : Option Bound) → look_up (inside base vs) x ≡ o
        → option_map (λ (c : Bound). c.place - base) o ≡ Some (b.place - base)
    by (Some c) here =
        let now = sym (look_up-first (inside base vs) (outside base vs) x c here) ∙ whole in
        let same : c ≡ b = cc in
        ap (λ (d : Bound). Some (d.place - base)) same
    by None here =
        let now = sym (look_up-behind (inside base vs) (outside base vs) x here) ∙ whole in
        let below : b.place < base = found_below base (outside base vs) x b is.outer now in
        let small : nat_lt b.place base ≡ true = lt-ltb b.place base below in cc

-- a name that is no variable has none
pub slot_none : (vs : Variables) (base : ℕ) (x : List ℕ) → look_up vs x ≡ None
    → look_up (map (λ v. (v.0, v.1.place - base)) (inside base vs)) x ≡ None
slot_none vs base x h = look_up-places base (inside base vs) x ∙ by (look_up (inside base vs) x) refl
  where
    whole : look_up (inside base vs ++ outside base vs) x ≡ None
    whole = ap (λ (ws : Variables). look_up ws x) (take-append-drop (length vs - base) vs) ∙ h

    by : (o : Option Bound) → look_up (inside base vs) x ≡ o
        → option_map (λ (c : Bound). c.place - base) o ≡ None
    by None here = refl
    by (Some c) here =
        let now = sym (look_up-first (inside base vs) (outside base vs) x c here) ∙ whole in cc

-- ## Lets

-- the body of a `let` uses a variable from outside where it does among all
pub open_body : (b : ℕ) (bound : Scope) (old new : Variables) (t : Sexp) → b ≤ length old
    → new ≡ placed_from (length old) bound ++ old
    → uses_outer (names_of (inside b new)) (sorts_of (outside b new)) t
    ≡ uses_outer (names_of bound ++ names_of (inside b old)) (sorts_of (outside b old)) t
open_body b bound old new t within more =
    let placed = placed_from (length old) bound in
    ap (λ (xs : List (List ℕ)). uses_outer xs (sorts_of (outside b new)) t)
    (ap (λ (vs : Variables). names_of (inside b vs)) more
    ∙ ap (λ (vs : Variables). names_of vs) (inside_more b placed old within)
    ∙ map-append (λ (v : List ℕ × Bound). v.0) placed (inside b old)
    ∙ ap (λ (xs : List (List ℕ)). xs ++ names_of (inside b old)) (names-placed (length old) bound))
    ∙ ap (λ (vs : Variables). uses_outer (names_of bound ++ names_of (inside b old)) (sorts_of vs) t)
    (ap (λ (vs : Variables). outside b vs) more ∙ outside_more b placed old within)

-- variables that are bound have the next places
slots-placed : (base n : ℕ) (vs : Scope) → base ≤ n
    → map (λ v. (v.0, v.1.place - base)) (placed_from n vs) ≡ slots_from (n - base) (names_of vs)
slots-placed base n [] h = refl
slots-placed base n (v ∷ vs) h =
    let next : (n + 1) - base ≡ (n - base) + 1 = omega (arith, h) in
    ap (λ (ss : List (List ℕ × ℕ)). (v.0, n - base) ∷ ss)
    (slots-placed base (n + 1) vs (omega (arith, h))
    ∙ ap (λ (m : ℕ). slots_from m (names_of vs)) next)

pub slots_more : (b : ℕ) (bound : Scope) (old new : Variables) → b ≤ length old
    → new ≡ placed_from (length old) bound ++ old
    → map (λ v. (v.0, v.1.place - b)) (inside b new)
    ≡ slots_from (length old - b) (names_of bound) ++ map (λ v. (v.0, v.1.place - b)) (inside b old)
slots_more b bound old new within more =
    let placed = placed_from (length old) bound in
    let slot : (List ℕ × Bound) → (List ℕ × ℕ) = λ v. (v.0, v.1.place - b) in
    ap (λ (vs : Variables). map slot (inside b vs)) more
    ∙ ap (λ (vs : Variables). map slot vs) (inside_more b placed old within)
    ∙ map-append slot placed (inside b old)
    ∙ ap (λ (ss : List (List ℕ × ℕ)). ss ++ map slot (inside b old)) (slots-placed b (length old) bound within)

pub places_more : (b : ℕ) (bound : Scope) (old new : Variables) → b ≤ length old
    → new ≡ placed_from (length old) bound ++ old → length new - b ≡ (length old - b) + length bound
places_more b bound old new within more =
    omega (
      arith,
      within,
      ap length more,
      length-append (placed_from (length old) bound) old,
      length-placed (length old) bound,
    )

-- what was seen before is left
pub cut_back : (bound : Scope) (old new : Variables) → new ≡ placed_from (length old) bound ++ old
    → drop (length new - length old) new ≡ old
cut_back bound old new more =
    let placed = placed_from (length old) bound in
    let len : length (placed ++ old) - length old ≡ length placed = omega (arith, length-append placed old) in
    ap (λ (vs : Variables). drop (length vs - length old) vs) more
    ∙ ap (λ (n : ℕ). drop n (placed ++ old)) len ∙ drop-append_seam placed old

-- ## Terms with labels

-- a term that uses none of the variables at all uses none of those outside
abbrev Hides : List (List ℕ) → Scope → List (List ℕ) → Scope → Type 0
Hides xs all ys some = (x : List ℕ) → (not (is_among xs x) && is_some (look_up all x)) ≡ false
    → (not (is_among ys x) && is_some (look_up some x)) ≡ false

among-append : (xs ys : List (List ℕ)) (x : List ℕ) → is_among (xs ++ ys) x ≡ (is_among xs x || is_among ys x)
among-append [] ys x = refl
among-append (y ∷ xs) ys x = by (bytes_eq x y) (among-append xs ys x)
  where
    by : (b : Bool) → is_among (xs ++ ys) x ≡ (is_among xs x || is_among ys x)
        → (b || is_among (xs ++ ys) x) ≡ ((b || is_among xs x) || is_among ys x)
    by true h = refl
    by false h = h

hides_more : (zs xs : List (List ℕ)) (all : Scope) (ys : List (List ℕ)) (some : Scope) → Hides xs all ys some
    → Hides (zs ++ xs) all (zs ++ ys) some
hides_more zs xs all ys some hides x h =
    ap (λ (b : Bool). not b && is_some (look_up some x)) (among-append zs ys x)
    ∙ by (is_among zs x)
    (sym (ap (λ (b : Bool). not b && is_some (look_up all x)) (among-append zs xs x)) ∙ h)
  where
    by : (b : Bool) → (not (b || is_among xs x) && is_some (look_up all x)) ≡ false
        → (not (b || is_among ys x) && is_some (look_up some x)) ≡ false
    by true g = refl
    by false g = hides x g

either : (a b c d : Bool) → (a ≡ false → c ≡ false) → (b ≡ false → d ≡ false) → (a || b) ≡ false
    → (c || d) ≡ false
either true b c d f g h = cc
either false b c d f g h = ap (λ (e : Bool). e || d) (f refl) ∙ g h

mutual
  closed_inside : (xs : List (List ℕ)) (all : Scope) (ys : List (List ℕ)) (some : Scope)
      → Hides xs all ys some → (t : Sexp) → uses_outer xs all t ≡ false → uses_outer ys some t ≡ false
  closed_inside xs all ys some hides (Atom Symbol x) h = hides x h
  closed_inside xs all ys some hides (Atom Keyword x) h = refl
  closed_inside xs all ys some hides (Atom Numeral x) h = refl
  closed_inside xs all ys some hides (Atom Decimal x) h = refl
  closed_inside xs all ys some hides (Atom Hexadecimal x) h = refl
  closed_inside xs all ys some hides (Atom Binary x) h = refl
  closed_inside xs all ys some hides (Atom Text x) h = refl
  closed_inside xs all ys some hides (Reserved word) h = refl
  closed_inside xs all ys some hides (Items Nil) h = refl
  closed_inside xs all ys some hides (Items (Cons (Reserved Underscore) parts)) h = refl
  closed_inside xs all ys some hides (Items (Cons (Reserved As) parts)) h = refl
  closed_inside xs all ys some hides
      (Items (Cons (Reserved Let) (Cons (Items bindings) (Cons body Nil)))) h =
      let zs = map (λ b. b.0) (named_trees bindings) in
      either (bindings_use_outer xs all bindings) (uses_outer (zs ++ xs) all body)
      (bindings_use_outer ys some bindings) (uses_outer (zs ++ ys) some body)
      (closed_bindings xs all ys some hides bindings)
      (closed_inside (zs ++ xs) all (zs ++ ys) some (hides_more zs xs all ys some hides) body) h
  closed_inside xs all ys some hides (Items (Cons (Reserved Bang) (Cons term attributes))) h =
      closed_inside xs all ys some hides term h
  closed_inside xs all ys some hides (Items (Cons head args)) h = closed_all xs all ys some hides args h

  closed_all : (xs : List (List ℕ)) (all : Scope) (ys : List (List ℕ)) (some : Scope)
      → Hides xs all ys some → (ts : Sexps) → any_uses_outer xs all ts ≡ false
      → any_uses_outer ys some ts ≡ false
  closed_all xs all ys some hides Nil h = refl
  closed_all xs all ys some hides (Cons t ts) h =
      either (uses_outer xs all t) (any_uses_outer xs all ts) (uses_outer ys some t)
      (any_uses_outer ys some ts) (closed_inside xs all ys some hides t) (closed_all xs all ys some hides ts) h

  closed_bindings : (xs : List (List ℕ)) (all : Scope) (ys : List (List ℕ)) (some : Scope)
      → Hides xs all ys some → (ts : Sexps) → bindings_use_outer xs all ts ≡ false
      → bindings_use_outer ys some ts ≡ false
  closed_bindings xs all ys some hides (Cons (Items (Cons (Atom Symbol x) (Cons term Nil))) rest) h =
      either (uses_outer xs all term) (bindings_use_outer xs all rest) (uses_outer ys some term)
      (bindings_use_outer ys some rest) (closed_inside xs all ys some hides term)
      (closed_bindings xs all ys some hides rest) h
  closed_bindings xs all ys some hides _ h = refl

-- ## Drafts that see the same

pub sorts_kept : (old new : Draft) → SeesTheSame old new → sorts_seen new ≡ sorts_seen old
sorts_kept old new same = ap sorts_of same.variables

pub placed_kept : (old new : Draft) → SeesTheSame old new → IsPlaced (seen_by old) old.base
    → IsPlaced (seen_by new) new.base
placed_kept old new same is =
    subst (λ (vs : Variables). IsPlaced vs new.base) (sym same.variables)
    (subst (λ (b : ℕ). IsPlaced (seen_by old) b) (sym same.base) is)

pub kept_on : (old mid new : Draft) → SeesTheSame old mid → SeesTheSame mid new → SeesTheSame old new
kept_on old mid new first second =
    record { variables = second.variables ∙ first.variables; base = second.base ∙ first.base }

pub open_kept : (old new : Draft) → SeesTheSame old new → (t : Sexp) → is_open new t ≡ is_open old t
open_kept old new same t =
    ap (λ (vs : Variables). uses_outer (names_of (inside new.base vs)) (sorts_of (outside new.base vs)) t)
    same.variables
    ∙ ap (λ (b : ℕ). uses_outer (names_of (inside b (seen_by old))) (sorts_of (outside b (seen_by old))) t)
    same.base

-- ## Terms with labels, and without

-- where all stand outside, a term is open where it uses a variable
pub open_whole : (vs : Variables) (n : ℕ) → n ≡ length vs → (t : Sexp)
    → uses_outer (names_of (inside n vs)) (sorts_of (outside n vs)) t ≡ uses_variable (sorts_of vs) t
open_whole vs n is t =
    ap (λ (k : ℕ). uses_outer (names_of (inside k vs)) (sorts_of (outside k vs)) t) is
    ∙ ap (λ (ws : Variables). uses_outer (names_of ws) (sorts_of (outside (length vs) vs)) t) (inside_none vs)
    ∙ ap (λ (ws : Variables). uses_outer [] (sorts_of ws) t) (outside_all vs)

-- a term that uses no variable uses none from outside
pub closed_within : (vs : Variables) (base : ℕ) (t : Sexp) → uses_variable (sorts_of vs) t ≡ false
    → uses_outer (names_of (inside base vs)) (sorts_of (outside base vs)) t ≡ false
closed_within vs base t h =
    closed_inside [] (sorts_of vs) (names_of (inside base vs)) (sorts_of (outside base vs)) hides t h
  where
    none : (o : Option Bound) → is_some o ≡ false → o ≡ None
    none None g = refl
    none (Some b) g = cc

    hides : Hides [] (sorts_of vs) (names_of (inside base vs)) (sorts_of (outside base vs))
    hides x g = open-none vs base x (none (look_up vs x) (sym (found_sorts vs x) ∙ g))

-- a term that uses none of the variables uses none of those that have slots
pub uses_none : (vs : Variables) (base : ℕ) (t : Sexp) → uses_variable (sorts_of vs) t ≡ false
    → UsesNone (map (λ v. (v.0, v.1.place - base)) (inside base vs)) t
uses_none vs base t h =
    closed_inside [] (sorts_of vs) [] (map (λ s. (s.0, Boolean)) slots) hides t h
  where
    slots : List (List ℕ × ℕ)
    slots = map (λ v. (v.0, v.1.place - base)) (inside base vs)

    none : (o : Option Bound) → is_some o ≡ false → o ≡ None
    none None g = refl
    none (Some b) g = cc

    unseen : (ss : List (List ℕ × ℕ)) (x : List ℕ) → look_up ss x ≡ None
        → is_some (look_up (map (λ s. (s.0, Boolean)) ss) x) ≡ false
    unseen [] x g = refl
    unseen (s ∷ ss) x g = by (bytes_eq x s.0) g (unseen ss x)
      where
        by : (b : Bool) → cond b (Some s.1) (look_up ss x) ≡ None
            → (look_up ss x ≡ None → is_some (look_up (map (λ r. (r.0, Boolean)) ss) x) ≡ false)
            → is_some (cond b (Some Boolean) (look_up (map (λ r. (r.0, Boolean)) ss) x)) ≡ false
        by true k rest = cc
        by false k rest = rest k

    hides : Hides [] (sorts_of vs) [] (map (λ s. (s.0, Boolean)) slots)
    hides x g = unseen slots x (slot_none vs base x (none (look_up vs x) (sym (found_sorts vs x) ∙ g)))

-- a term that has labels without a fault uses no variable
pub closed_by_labels : (library : Library) (labels : Labels) (scope : Scope) (t : Sexp) (xs : List (List ℕ))
    → has_labels xs ≡ true
    → flaw_of_labels (names_for library (labels_view labels)) scope t xs ≡ None
    → uses_variable scope t ≡ false
closed_by_labels library labels scope t [] some h = cc
closed_by_labels library labels scope t (x ∷ xs) some h =
    by (labels.refused) (uses_variable scope t) refl
    (or_none (flaw_of_label names (labels_view labels) scope t x) _ h).0
  where
    names : Names
    names = names_for library (labels_view labels)

    by : (refused used : Bool) → uses_variable scope t ≡ used
        → flaw_of_label names (cond refused spec.Refused (spec.Given (given_names labels))) scope t x ≡ None
        → used ≡ false
    by true used u g = cc
    by false true u g =
        let now = sym (ap (λ (b : Bool). cond b (Some Label)
        (where_fresh (NewLabel names (given_names labels)) x Some None)) u) ∙ g in cc
    by false false u g = refl

pub no_labels : (xs : List (List ℕ)) → has_labels xs ≡ false → xs ≡ []
no_labels [] h = refl
no_labels (x ∷ xs) h = cc

-- a term without labels has its own sort
pub annotated_alone : (names : Names) (scope : Scope) (args attributes : Sexps) (t : Sexp)
    → args ≡ Cons t attributes → are_attributes attributes ≡ true → has_labels (labels_among attributes) ≡ false
    → bang_in names scope args ≡ sort_in names scope t
annotated_alone names scope args attributes t split is none =
    bang_with_parts names scope args attributes t true split is
    ∙ ap (λ (xs : List (List ℕ)). result_and_then (sort_in names scope t)
    (λ s. unless (flaw_of_labels (behind (labels_in t) names) scope t xs) (Ok s)))
    (no_labels (labels_among attributes) none)
    ∙ same (sort_in names scope t)
  where
    same : (r : Result Sort TermFlaw) → result_and_then r (λ s. Ok s) ≡ r
    same (Ok s) = refl
    same (Err e) = refl

-- ## Outcomes of what is the same

pub carried_sort : (r : Result CheckedTerm TermFault) (s t : Result Sort TermFlaw) → t ≡ s
    → IsOutcome (λ (c : CheckedTerm). c.sort) s r → IsOutcome (λ (c : CheckedTerm). c.sort) t r
carried_sort (Ok c) s t e h = e ∙ h
carried_sort (Err f) s t e (inl m) = inl m
carried_sort (Err f) s t e (inr h) = inr (e ∙ h)

pub tells_same : {A : Type 0} (s t : Result A TermFlaw) (e : TermFault) → t ≡ s → Tells s e → Tells t e
tells_same s t e is (inl m) = inl m
tells_same s t e is (inr h) = inr (is ∙ h)

pub carried_open : (r : Result CheckedTerm TermFault) (b c : Bool) → c ≡ b
    → IfOk r (λ (k : CheckedTerm). k.is_open ≡ b) → IfOk r (λ (k : CheckedTerm). k.is_open ≡ c)
carried_open (Ok k) b c is h = h ∙ sym is
carried_open (Err f) b c is h = h

-- ## One term more, and lists

pub opened_next : (all l checked part rest left : Bool) → all ≡ (l || left) → left ≡ (part || rest)
    → checked ≡ part → all ≡ ((l || checked) || rest)
opened_next all true checked part rest left h split is = h
opened_next all false checked part rest left h split is = h ∙ split ∙ ap (λ (b : Bool). b || rest) (sym is)

pub opened_all : (all l left : Bool) → all ≡ (l || left) → left ≡ false → l ≡ all
opened_all all true left h none = sym h
opened_all all false left h none = sym (h ∙ none)

-- the variables that are bound stand before those that were seen
pub bound_sorts : (n : ℕ) (bound scope : Scope) (old new : Variables) → new ≡ placed_from n bound ++ old
    → sorts_of old ≡ scope → sorts_of new ≡ bound ++ scope
bound_sorts n bound scope old new more is =
    ap sorts_of more ∙ map-append (λ (v : List ℕ × Bound). (v.0, v.1.sort)) (placed_from n bound) old
    ∙ ap (λ (vs : Scope). vs ++ sorts_of old) (sorts-placed n bound) ∙ ap (λ (vs : Scope). bound ++ vs) is

-- a `let` uses a variable from outside where its bindings do, or its body
-- the sort of a `let` is that of its body, which sees the variables that were bound
pub let_sorted : (library : Library) (d mid inner : Draft) (bound : Scope) (args bindings : Sexps) (body : Sexp)
    → args ≡ Cons (Items bindings) (Cons body Nil) → are_bindings bindings ≡ true
    → bound_in (names_for library (labels_view d.labels)) (sorts_seen d) [] bindings ≡ Ok bound
    → AreGiven (names_of_library library) d.labels mid.labels (labels_in_bindings bindings) → SeesTheSame d mid
    → seen_by inner ≡ placed_from (length (seen_by mid)) bound ++ seen_by mid → inner.labels ≡ mid.labels
    → let_in (names_for library (labels_view d.labels)) (sorts_seen d) args
    ≡ sort_in (names_for library (labels_view inner.labels)) (sorts_seen inner) body
let_sorted library d mid inner bound args bindings body split is found given kept more labels =
    let_of_body (names_for library (labels_view d.labels)) (names_for library (labels_view inner.labels)) (sorts_seen d)
    (sorts_seen inner) bound args bindings body
    (ap (λ (ls : Labels). names_for library (labels_view ls)) labels
    ∙ names_behind library (names_of_library library) d.labels mid.labels (labels_in_bindings bindings) given)
    split is found
    (bound_sorts (length (seen_by mid)) bound (sorts_seen d) (seen_by mid) (seen_by inner) more
    (sorts_kept d mid kept))

pub open_let : (d mid inner : Draft) (bindings args : Sexps) (body : Sexp) (bound : Scope) (b c : Bool)
    → SeesTheSame d mid → d.base ≤ length (seen_by d)
    → seen_by inner ≡ placed_from (length (seen_by mid)) bound ++ seen_by mid → inner.base ≡ mid.base
    → names_of bound ≡ map (λ t. t.0) (named_trees bindings)
    → args ≡ Cons (Items bindings) (Cons body Nil) → b ≡ are_open_bindings d bindings → c ≡ is_open inner body
    → (b || c) ≡ is_open d (Items (Cons (Reserved Let) args))
open_let d mid inner bindings args body bound b c kept within more base named split h i =
    let more_d : seen_by inner ≡ placed_from (length (seen_by d)) bound ++ seen_by d =
    more ∙ ap (λ (vs : Variables). placed_from (length vs) bound ++ vs) kept.variables in
    let base_d : inner.base ≡ d.base = base ∙ kept.base in
    ap (λ (x : Bool). x || c) h
    ∙ ap (λ (x : Bool). are_open_bindings d bindings || x)
    (i
    ∙ ap (λ (n : ℕ). uses_outer (names_of (inside n (seen_by inner))) (sorts_of (outside n (seen_by inner))) body)
    base_d
    ∙ open_body d.base bound (seen_by d) (seen_by inner) body within more_d
    ∙ ap (λ (xs : List (List ℕ)). uses_outer (xs ++ names_inside d) (sorts_outside d) body) named)
    ∙ sym (ap (λ (ts : Sexps). is_open d (Items (Cons (Reserved Let) ts))) split)

-- a list with another head does where its arguments do
pub open_args : (d : Draft) (head : Sexp) (args parts : Sexps) → parts ≡ Cons head args → IsPlainHead head
    → is_open d (Items parts) ≡ are_open d args
open_args d head args parts split other =
    ap (λ (ps : Sexps). is_open d (Items ps)) split ∙ by head other.no_index other.no_let other.no_bang other.no_as
  where
    by : (h : Sexp) → begins_indexed h ≡ false → begins_let h ≡ false → begins_annotated h ≡ false
        → begins_qualified h ≡ false → is_open d (Items (Cons h args)) ≡ are_open d args
    by (Reserved Underscore) i j k l = cc
    by (Reserved As) i j k l = cc
    by (Reserved Let) i j k l = cc
    by (Reserved Bang) i j k l = cc
    by _ i j k l = refl
