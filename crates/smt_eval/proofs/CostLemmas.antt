-- What terms cost over definitions, and that variables which a term does not use hide nothing in it.
use Rattle.std.proofs.Common.{◌≡◌, ◌<◌, ◌≤◌, ℕ, zero, suc, ◌+◌, Bool, true, false, cond, not, ◌&&◌, ◌||◌, List, []}
use Rattle.std.proofs.Common.{◌∷◌, ◌++◌, map, slice_get, take, Some, None, is_some, refl, ap, sym, ◌∙◌}
use Rattle.std.proofs.Common.{arith}
use Rattle.std.specs.Prelude.{bytes_eq}
use Rattle.smt_trees.specs.Sexp as sexp
use Rattle.smt_trees.specs.Sexp.{Sexp, Sexps, Atom, Reserved, Items, Nil, Cons, Symbol, Keyword, Numeral}
use Rattle.smt_trees.specs.Sexp.{Hexadecimal, Binary}
use Rattle.smt_trees.specs.declared.reserved.Word.TheVariants.{As, Bang, Let, Underscore}
use Rattle.smt_theory.specs.Words.{look_up}
use Rattle.smt_theory.specs.Sort.{Sort}
use Rattle.smt_theory.specs.Sort.{Boolean}
use Rattle.smt_forms.specs.Bindings.{named_trees}
use Rattle.smt_forms.specs.Identifier.{applied}
use Rattle.smt_forms.specs.Variables.{any_uses_outer, bindings_use_outer, is_among, uses_outer}
use Rattle.smt_terms.specs.Denotes.{Slots, UsesNone, slots_from}
use Rattle.smt_terms.specs.Signature.{AreDistinct, Entry, Signature, entry_named}
use Rattle.smt_eval.proofs.EntryLemmas.{entry_named-take}
use Rattle.smt_eval.proofs.NameLemmas.{none_step, same_self}
use Rattle.smt_eval.specs.Cost.{BodyCosts, body_cost, cost_of, costs_after, costs_bound, costs_in, costs_of}
use Rattle.smt_eval.specs.Cost.{head_cost, no_costs, with_cost}
use Rattle.smt_eval.specs.Internal.DefinitionValues.{first}

-- ---- names

-- a name that is not defined costs what it did
pub cost_absent : (b : BodyCosts) (es : List Entry) (x : List ℕ) → entry_named es x ≡ None
    → costs_after b es x ≡ b x
cost_absent b [] x h = refl
cost_absent b (e ∷ es) x h =
    let n = none_step (bytes_eq x e.name) e (entry_named es x) h in
    cost_absent (with_cost b e) es x n.1 ∙ ap (λ k. cond k (body_cost b e.origin) (b x)) n.0

-- a name that is defined costs its body over the earlier ones
cost_at : (b : BodyCosts) (es : List Entry) (n p : ℕ) (e : Entry) → AreDistinct es
    → slice_get es p ≡ Some e → p < n
    → costs_after b (take n es) e.name ≡ body_cost (costs_after b (take p es)) e.origin
cost_at b [] n p e d at h = cc
cost_at b (c ∷ es) zero p e d at h = absurd (omega arith)
cost_at b (c ∷ es) (suc n) zero e d at h =
    let is : c ≡ e = cc in
    ap (λ (z : Entry). costs_after (with_cost b c) (take n es) z.name) (sym is)
    ∙ cost_absent (with_cost b c) (take n es) c.name (entry_named-take es c.name n d.0)
    ∙ ap (λ k. cond k (body_cost b c.origin) (b c.name)) (same_self c.name)
    ∙ ap (λ (z : Entry). body_cost b z.origin) is
cost_at b (c ∷ es) (suc n) (suc p) e d at h = cost_at (with_cost b c) es n p e d.1 at (omega arith)

pub defined_costs : (d : Signature) (n p : ℕ) (e : Entry) (x : List ℕ) → AreDistinct d.entries
    → slice_get d.entries p ≡ Some e → p < n → e.name ≡ x
    → costs_in (first n d) x ≡ body_cost (costs_in (first p d)) e.origin
defined_costs d n p e x distinct at h is =
    ap (costs_in (first n d)) (sym is) ∙ cost_at no_costs d.entries n p e distinct at h

-- ---- a term

-- each costs 1 at least
pub cost_some : (b : BodyCosts) (variables : List (List ℕ)) (t : Sexp) → 1 ≤ cost_of b variables t
cost_some b variables (Atom Symbol x) = omega arith
cost_some b variables (Atom Numeral x) = omega arith
cost_some b variables (Atom Hexadecimal x) = omega arith
cost_some b variables (Atom Binary x) = omega arith
cost_some b variables (Atom sexp.Decimal x) = omega arith
cost_some b variables (Atom sexp.Text x) = omega arith
cost_some b variables (Atom Keyword x) = omega arith
cost_some b variables (Reserved word) = omega arith
cost_some b variables (Items Nil) = omega arith
cost_some b variables (Items (Cons (Reserved Underscore) parts)) = omega arith
cost_some b variables (Items (Cons (Reserved As) parts)) = omega arith
cost_some b variables (Items (Cons (Reserved Let) (Cons (Items bindings) (Cons body Nil)))) = omega arith
cost_some b variables (Items (Cons (Reserved Bang) (Cons term attributes))) = omega arith
cost_some b variables (Items (Cons head args)) = omega arith

-- ---- variables

-- the names of variables with places
abbrev pub names_in : Slots → List (List ℕ)
names_in slots = map (λ s. s.0) slots

pub among_names : (slots : Slots) (x : List ℕ) → is_among (names_in slots) x ≡ is_some (look_up slots x)
among_names [] x = refl
among_names (s ∷ slots) x = by (bytes_eq x s.0) (among_names slots x)
  where
    by : (b : Bool) → is_among (names_in slots) x ≡ is_some (look_up slots x)
        → b || is_among (names_in slots) x ≡ is_some (cond b (Some s.1) (look_up slots x))
    by true rest = refl
    by false rest = rest

among_sorted : (slots : Slots) (x : List ℕ)
    → is_among (names_in slots) x ≡ is_some (look_up (map (λ s. (s.0, Boolean)) slots) x)
among_sorted [] x = refl
among_sorted (s ∷ slots) x = by (bytes_eq x s.0) (among_sorted slots x)
  where
    others : List (List ℕ × Sort)
    others = map (λ v. (v.0, Boolean)) slots

    by : (b : Bool) → is_among (names_in slots) x ≡ is_some (look_up others x)
        → b || is_among (names_in slots) x ≡ is_some (cond b (Some Boolean) (look_up others x))
    by true rest = refl
    by false rest = rest

pub names_from : (n : ℕ) (xs : List (List ℕ)) → names_in (slots_from n xs) ≡ xs
names_from n [] = refl
names_from n (x ∷ xs) = ap (λ ys. x ∷ ys) (names_from (n + 1) xs)

-- ---- variables that a term does not use

neither : (a b : Bool) → a || b ≡ false → (a ≡ false) × (b ≡ false)
neither true b h = cc
neither false b h = (refl, h)

-- both hide the same names, but for outer variables that no inner one hides
abbrev HideTheSame : List (List ℕ) → List (List ℕ × Sort) → (vs ws : List (List ℕ)) → Type 0
HideTheSame inner outer vs ws = (x : List ℕ) → not (is_among inner x) && is_some (look_up outer x) ≡ false
    → is_among vs x ≡ is_among ws x

-- and so do both with more
same_behind : (names inner : List (List ℕ)) (outer : List (List ℕ × Sort)) (vs ws : List (List ℕ))
    → HideTheSame inner outer vs ws → HideTheSame (names ++ inner) outer (names ++ vs) (names ++ ws)
same_behind [] inner outer vs ws same = same
same_behind (y ∷ names) inner outer vs ws same = λ x.
    by x (bytes_eq x y) (same_behind names inner outer vs ws same x)
  where
    by : (x : List ℕ) (b : Bool)
        → (not (is_among (names ++ inner) x) && is_some (look_up outer x) ≡ false
        → is_among (names ++ vs) x ≡ is_among (names ++ ws) x)
        → not (b || is_among (names ++ inner) x) && is_some (look_up outer x) ≡ false
        → b || is_among (names ++ vs) x ≡ b || is_among (names ++ ws) x
    by x true rest h = refl
    by x false rest h = rest h

module _ (b : BodyCosts) where
  mutual
    cost_same : (inner : List (List ℕ)) (outer : List (List ℕ × Sort)) (vs ws : List (List ℕ))
        → HideTheSame inner outer vs ws → (t : Sexp) → uses_outer inner outer t ≡ false
        → cost_of b vs t ≡ cost_of b ws t
    cost_same inner outer vs ws same (Atom Symbol x) unused = ap (λ h. 1 + cond h 0 (b x)) (same x unused)
    cost_same inner outer vs ws same (Atom Numeral x) unused = refl
    cost_same inner outer vs ws same (Atom Hexadecimal x) unused = refl
    cost_same inner outer vs ws same (Atom Binary x) unused = refl
    cost_same inner outer vs ws same (Atom sexp.Decimal x) unused = refl
    cost_same inner outer vs ws same (Atom sexp.Text x) unused = refl
    cost_same inner outer vs ws same (Atom Keyword x) unused = refl
    cost_same inner outer vs ws same (Reserved word) unused = refl
    cost_same inner outer vs ws same (Items Nil) unused = refl
    cost_same inner outer vs ws same (Items (Cons (Reserved Underscore) parts)) unused = refl
    cost_same inner outer vs ws same (Items (Cons (Reserved As) parts)) unused = refl
    cost_same inner outer vs ws same
        (Items (Cons (Reserved Let) (Cons (Items bindings) (Cons body Nil)))) unused =
        let names = map (λ binding. binding.0) (named_trees bindings) in
        let n = neither (bindings_use_outer inner outer bindings) (uses_outer (names ++ inner) outer body)
        unused in
        let front = bound_same inner outer vs ws same bindings n.0 in
        let back = cost_same (names ++ inner) outer (names ++ vs) (names ++ ws)
        (same_behind names inner outer vs ws same) body n.1 in
        omega (arith, front, back)
    cost_same inner outer vs ws same (Items (Cons (Reserved Bang) (Cons term attributes))) unused =
        ap (λ n. 1 + n) (cost_same inner outer vs ws same term unused)
    cost_same inner outer vs ws same (Items (Cons head args)) unused =
        ap (λ n. 1 + head_cost b (applied head args) + n) (all_same inner outer vs ws same args unused)

    all_same : (inner : List (List ℕ)) (outer : List (List ℕ × Sort)) (vs ws : List (List ℕ))
        → HideTheSame inner outer vs ws → (ts : Sexps) → any_uses_outer inner outer ts ≡ false
        → costs_of b vs ts ≡ costs_of b ws ts
    all_same inner outer vs ws same Nil unused = refl
    all_same inner outer vs ws same (Cons x xs) unused =
        let n = neither (uses_outer inner outer x) (any_uses_outer inner outer xs) unused in
        let front = cost_same inner outer vs ws same x n.0 in
        let rest = all_same inner outer vs ws same xs n.1 in
        omega (arith, front, rest)

    bound_same : (inner : List (List ℕ)) (outer : List (List ℕ × Sort)) (vs ws : List (List ℕ))
        → HideTheSame inner outer vs ws → (bs : Sexps) → bindings_use_outer inner outer bs ≡ false
        → costs_bound b vs bs ≡ costs_bound b ws bs
    bound_same inner outer vs ws same (Cons (Items (Cons (Atom Symbol y) (Cons t Nil))) rest) unused =
        let n = neither (uses_outer inner outer t) (bindings_use_outer inner outer rest) unused in
        let front = cost_same inner outer vs ws same t n.0 in
        let later = bound_same inner outer vs ws same rest n.1 in
        omega (arith, front, later)
    bound_same inner outer vs ws same _ unused = refl

  -- a term that uses none of these variables
  pub cost_closed : (slots : Slots) (t : Sexp) → UsesNone slots t → cost_of b [] t ≡ cost_of b (names_in slots) t
  cost_closed slots t unused =
      cost_same [] (map (λ s. (s.0, Boolean)) slots) [] (names_in slots)
      (λ x none. sym (among_sorted slots x ∙ none)) t unused
