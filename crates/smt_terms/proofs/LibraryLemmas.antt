-- What the map of a library says of its names.
use Rattle.std.proofs.Common.{◌≡◌, ◌≤◌, ◌+◌, ℕ, zero, suc, Bool, true, false, cond, List, [], ◌∷◌}
use Rattle.std.proofs.Common.{length, drop, map, slice_get, Option, Some, None, option_map, option_copied}
use Rattle.std.proofs.Common.{is_some, refl, ap, ◌∙◌, arith, add-one, Bor}
use Rattle.std.specs.Prelude.{bytes_eq}
use Rattle.smt_theory.specs.Words.{look_up}
use Rattle.smt_terms.proofs.NameLemmas.{none_step}

-- the entries of a map, each under its name
abbrev pub Pairs : Type 0 → Type 0
Pairs V = List (List ℕ × V)

-- what is seen of them, under their names
abbrev pub viewed : {V A : Type 0} → (V → A) → Pairs V → List (List ℕ × A)
viewed view es = map (λ p. (p.0, view p.1)) es

-- what the map finds is what the name stands for
pub found : {V A : Type 0} (view : V → A) (es : Pairs V) (x : List ℕ)
    → option_map view (look_up es x) ≡ look_up (viewed view es) x
found view [] x = refl
found view (p ∷ es) x = by (bytes_eq x p.0) (found view es x)
  where
    by : (b : Bool) → option_map view (look_up es x) ≡ look_up (viewed view es) x
        → option_map view (cond b (Some p.1) (look_up es x))
        ≡ cond b (Some (view p.1)) (look_up (viewed view es) x)
    by true rest = refl
    by false rest = rest

-- the same, of the reference that the map gives
pub found_by : {V A : Type 0} (view : V → A) (es : Pairs V) (x : List ℕ) (r : Option (Bor V))
    → option_copied r ≡ look_up es x → option_map (λ e. view e.now) r ≡ look_up (viewed view es) x
found_by view es x None h = ap (option_map view) h ∙ found view es x
found_by view es x (Some b) h = ap (option_map view) h ∙ found view es x

-- whether it finds something is whether the name stands for something
pub some_copied : {V : Type 0} (r : Option (Bor V)) (o : Option V) → option_copied r ≡ o → is_some r ≡ is_some o
some_copied None o h = ap is_some h
some_copied (Some b) o h = ap is_some h

-- a name of which nothing is seen stands for nothing
pub absent_itself : {V A : Type 0} (f : V → A) (es : Pairs V) (x : List ℕ)
    → look_up (viewed f es) x ≡ None → look_up es x ≡ None
absent_itself f [] x h = refl
absent_itself f (p ∷ es) x h =
    let n = none_step (bytes_eq x p.0) (f p.1) (look_up (viewed f es) x) h in
    ap (λ b. cond b (Some p.1) (look_up es x)) n.0 ∙ absent_itself f es x n.1

-- among the entries from a place on, a name is that of the one there, or stands behind it
look_from : {V : Type 0} (es : Pairs V) (x : List ℕ) (n : ℕ) (p : List ℕ × V) → slice_get es n ≡ Some p
    → look_up (drop n es) x ≡ cond (bytes_eq x p.0) (Some p.1) (look_up (drop (suc n) es) x)
look_from [] x n p at = cc
look_from {V = V} (e ∷ es) x zero p at = let is : e ≡ p = cc
    in ap (λ (q : List ℕ × V). cond (bytes_eq x q.0) (Some q.1) (look_up es x)) is
look_from (e ∷ es) x (suc n) p at = look_from es x n p at

pub look_on : {V : Type 0} (es : Pairs V) (x : List ℕ) (n : ℕ) (p : List ℕ × V) → slice_get es n ≡ Some p
    → look_up (drop n es) x ≡ cond (bytes_eq x p.0) (Some p.1) (look_up (drop (n + 1) es) x)
look_on es x n p at = rw add-one (look_from es x n p at)

-- behind all entries there is none
pub look_past : {V : Type 0} (es : Pairs V) (x : List ℕ) (n : ℕ) → length es ≤ n → look_up (drop n es) x ≡ None
look_past [] x zero h = refl
look_past [] x (suc n) h = refl
look_past (e ∷ es) x zero h = absurd (omega (arith, h))
look_past (e ∷ es) x (suc n) h = look_past es x n (omega (arith, h))
