-- Where names stand, among the declared and the defined ones.
use Rattle.std.proofs.Common.{◌≡◌, ℕ, suc, ◌+◌, Bool, true, false, cond, not, List, [], ◌∷◌, length}
use Rattle.std.proofs.Common.{map, slice_get, Option, Some, None, option_map, refl, ap, sym, ◌∙◌, arith}
use Rattle.std.proofs.Common.{MatchOption, subst}
use Rattle.std.specs.Str.{bytes_eq}
use Rattle.smt_theory.specs.Words.{look_up}
use Rattle.smt_terms.specs.Denotes.{Head}
use Rattle.smt_terms.specs.Library.{IsFound, declared_among, defined_among, is_declared}
use Rattle.smt_terms.specs.TermsOf.{heads_from, place_behind, with_declared, with_defined}
use Rattle.smt_terms.specs.Signature as signature
use Rattle.smt_terms.specs.Signature.{Entry, Origin, entry_named}
use Rattle.smt_terms.specs.declared.library.Found.{Found}
use Rattle.smt_terms.specs.declared.library.Found.TheVariants as place

-- how many are declared, with one more in front
pub counted_declared : (n : ℕ) (e : Entry) (es : List Entry)
    → with_declared n e.origin + length (declared_among es) ≡ n + length (declared_among (e ∷ es))
counted_declared n e es = by e.origin
  where
    by : (o : Origin) → with_declared n o + length (declared_among es)
        ≡ n + length (cond (is_declared o) (e ∷ declared_among es) (declared_among es))
    by (signature.Declared command) = omega arith
    by (signature.Defined ps body) = refl

-- how many are defined
pub counted_defined : (n : ℕ) (e : Entry) (es : List Entry)
    → with_defined n e.origin + length (defined_among es) ≡ n + length (defined_among (e ∷ es))
counted_defined n e es = by e.origin
  where
    by : (o : Origin) → with_defined n o + length (defined_among es)
        ≡ n + length (cond (not (is_declared o)) (e ∷ defined_among es) (defined_among es))
    by (signature.Declared command) = refl
    by (signature.Defined ps body) = omega arith

-- the names with where they stand, behind so many that are declared, and so many that are defined
abbrev pub places_from : ℕ → ℕ → List Entry → List (List ℕ × Found)
places_from declared defined [] = []
places_from declared defined (e ∷ es) =
    (e.name, place_behind declared defined e.origin)
    ∷ places_from (with_declared declared e.origin) (with_defined defined e.origin) es

-- where names stand, without how many arguments they take
abbrev pub places_in : List (List ℕ × Head) → List (List ℕ × Found)
places_in heads = map (λ p. (p.0, p.1.place)) heads

pub places-heads : (m n : ℕ) (es : List Entry) → places_in (heads_from m n es) ≡ places_from m n es
places-heads m n [] = refl
places-heads m n (e ∷ es) = ap
    (λ (ps : List (List ℕ × Found)). (e.name, place_behind m n e.origin) ∷ ps)
    (places-heads (with_declared m e.origin) (with_defined n e.origin) es)

-- the entry stands at this place, behind so many that are declared, and so many that are defined
abbrev pub IsFoundBehind : ℕ → ℕ → Found → List Entry → List Entry → Entry → Type 0
IsFoundBehind m n (place.Declared k) declared defined e =
    (i : ℕ) × (k ≡ m + i) × (slice_get declared i ≡ Some e)
IsFoundBehind m n (place.Defined k) declared defined e =
    (i : ℕ) × (k ≡ n + i) × (slice_get defined i ≡ Some e)

-- the first stands first
found_here : (m n : ℕ) (o : Origin) (ds fs : List Entry) (e : Entry)
    → IsFoundBehind m n (place_behind m n o) (cond (is_declared o) (e ∷ ds) ds)
    (cond (not (is_declared o)) (e ∷ fs) fs) e
found_here m n (signature.Declared command) ds fs e = (0, omega arith, refl)
found_here m n (signature.Defined ps body) ds fs e = (0, omega arith, refl)

-- and those behind it one place later
found_later : (m n : ℕ) (o : Origin) (p : Found) (ds fs : List Entry) (x e : Entry)
    → IsFoundBehind (with_declared m o) (with_defined n o) p ds fs e
    → IsFoundBehind m n p (cond (is_declared o) (x ∷ ds) ds) (cond (not (is_declared o)) (x ∷ fs) fs) e
found_later m n (signature.Declared command) (place.Declared k) ds fs x e (i, at, is) =
    (suc i, omega (arith, at), is)
found_later m n (signature.Declared command) (place.Defined k) ds fs x e h = h
found_later m n (signature.Defined ps body) (place.Declared k) ds fs x e h = h
found_later m n (signature.Defined ps body) (place.Defined k) ds fs x e (i, at, is) =
    (suc i, omega (arith, at), is)

-- what is said of a place that is looked up
abbrev pub IsPlaced : ℕ → ℕ → List Entry → List ℕ → Option Found → Type 0
IsPlaced m n es x found =
    MatchOption found (entry_named es x ≡ None)
    (λ p. (e : Entry) × (entry_named es x ≡ Some e)
    × IsFoundBehind m n p (declared_among es) (defined_among es) e)

IsPlaced-places : (m n : ℕ) (es : List Entry) (x : List ℕ)
    → IsPlaced m n es x (look_up (places_from m n es) x)
IsPlaced-places m n [] x = refl
IsPlaced-places m n (y ∷ es) x = by (bytes_eq x y.name) refl
    (look_up (places_from (with_declared m y.origin) (with_defined n y.origin) es) x)
    (IsPlaced-places (with_declared m y.origin) (with_defined n y.origin) es x)
  where
    by : (b : Bool) → bytes_eq x y.name ≡ b → (r : Option Found)
        → IsPlaced (with_declared m y.origin) (with_defined n y.origin) es x r
        → IsPlaced m n (y ∷ es) x (cond b (Some (place_behind m n y.origin)) r)
    by true same r rest = (
      y,
      ap (λ b. cond b (Some y) (entry_named es x)) same,
      found_here m n y.origin
          (declared_among es) (defined_among es) y,
    )
    by false same None rest = ap (λ b. cond b (Some y) (entry_named es x)) same ∙ rest
    by false same (Some p) (e, at, is) = (
      e,
      ap (λ b. cond b (Some y) (entry_named es x)) same ∙ at,
      found_later m n y.origin p
          (declared_among es) (defined_among es) y e is,
    )

-- where a name stands is told of the entry of that name
pub found_named : (es : List Entry) (x : List ℕ) (r : Option Found) → r ≡ look_up (places_from 0 0 es) x
    → MatchOption r (entry_named es x ≡ None)
    (λ p. (e : Entry) × (entry_named es x ≡ Some e) × IsFound p es e)
found_named es x r is = by r (subst (λ o. IsPlaced 0 0 es x o) (sym is) (IsPlaced-places 0 0 es x))
  where
    by : (o : Option Found) → IsPlaced 0 0 es x o
        → MatchOption o (entry_named es x ≡ None)
        (λ p. (e : Entry) × (entry_named es x ≡ Some e) × IsFound p es e)
    by None h = h
    by (Some (place.Declared k)) (e, at, (i, same, here)) = let s : k ≡ i = omega (arith, same)
        in (e, at, ap (λ (j : ℕ). slice_get (declared_among es) j) s ∙ here)
    by (Some (place.Defined k)) (e, at, (i, same, here)) = let s : k ≡ i = omega (arith, same)
        in (e, at, ap (λ (j : ℕ). slice_get (defined_among es) j) s ∙ here)

-- whether a place is a declared name's
abbrev pub is_declared_place : Found → Bool
is_declared_place (place.Declared k) = true
is_declared_place (place.Defined k) = false

place_of_origin : (m n : ℕ) (o : Origin) → is_declared_place (place_behind m n o) ≡ is_declared o
place_of_origin m n (signature.Declared command) = refl
place_of_origin m n (signature.Defined ps body) = refl

-- it is where a command declared the name
pub declared_place : (m n : ℕ) (es : List Entry) (x : List ℕ)
    → option_map is_declared_place (look_up (places_from m n es) x)
    ≡ option_map (λ e. is_declared e.origin) (entry_named es x)
declared_place m n [] x = refl
declared_place m n (y ∷ es) x =
    by (bytes_eq x y.name) (declared_place (with_declared m y.origin) (with_defined n y.origin) es x)
  where
    by : (b : Bool) → option_map is_declared_place
        (look_up (places_from (with_declared m y.origin) (with_defined n y.origin) es) x)
        ≡ option_map (λ e. is_declared e.origin) (entry_named es x)
        → option_map is_declared_place
        (cond b (Some (place_behind m n y.origin))
        (look_up (places_from (with_declared m y.origin) (with_defined n y.origin) es) x))
        ≡ option_map (λ e. is_declared e.origin) (cond b (Some y) (entry_named es x))
    by true rest = ap (λ (b : Bool). Some b) (place_of_origin m n y.origin)
    by false rest = rest
