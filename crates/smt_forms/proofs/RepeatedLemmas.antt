-- Names that stand twice: one more name, and where there is none.
use Rattle.std.proofs.Common.{◌≡◌, ◌≢◌, ◌↔◌, ℕ, suc, Bool, true, false, cond, ◌||◌, List, [], ◌∷◌, ◌++◌}
use Rattle.std.proofs.Common.{Option, Some, None, is_some, option_map, refl, ap, sym, ◌∙◌}
use Rattle.std.proofs.Common.{append_assoc, append-nil}
use Rattle.std.proofs.lemmas.Cmp.{nat_list_eq_equiv}
use Rattle.std.proofs.lemmas.Map.Keys.{IsDistinct-push, IsDistinct-head, IsDistinct-tail}
use Rattle.std.proofs.lemmas.Map.Made.{AllPairs-from_IsDistinct, IsDistinct-from_AllPairs}
use Rattle.std.specs.Cmp.Lexicographic.{bytes_decides}
use Rattle.std.specs.List.{AllByRecursion, AllPairs, IsDistinct}
use Rattle.std.specs.Option.{option_or}
use Rattle.std.specs.Prelude.{bytes_eq}
use Rattle.smt_forms.specs.Internal.Places.{place_from}
use Rattle.smt_forms.specs.Repeated.{repeated_behind}
use Rattle.smt_forms.specs.Variables.{is_among}

abbrev Names : Type 0
Names = List (List ℕ)

-- a name is among others exactly where it has a place there
pub among-place : (at : ℕ) (xs : Names) (name : List ℕ) → is_some (place_from at xs name) ≡ is_among xs name
among-place at [] name = refl
among-place at (x ∷ xs) name =
    by (bytes_eq name x) (place_from (suc at) xs name)
    ∙ ap (λ b. bytes_eq name x || b) (among-place (suc at) xs name)
  where
    by : (b : Bool) (o : Option ℕ) → is_some (option_or o (cond b (Some at) None)) ≡ b || is_some o
    by true None = refl
    by false None = refl
    by true (Some k) = refl
    by false (Some k) = refl

-- ## Where all names differ

-- a name behind others that all differ isn't among them
fresh : (xs ys : Names) (y : List ℕ) → IsDistinct bytes_eq (xs ++ y ∷ ys) → is_among xs y ≡ false
fresh [] ys y h = refl
fresh (x ∷ xs) ys y h =
    ap (λ b. b || is_among xs y) (nat_list_eq_equiv.symm y x
    ∙ apart xs (IsDistinct-head bytes_eq x (xs ++ y ∷ ys) h))
    ∙ fresh xs ys y (IsDistinct-tail bytes_eq x (xs ++ y ∷ ys) h)
  where
    apart : (zs : Names) → AllByRecursion (λ z. bytes_eq x z ≡ false) (zs ++ y ∷ ys) → bytes_eq x y ≡ false
    apart [] a = a.0
    apart (z ∷ zs) a = apart zs a.1

none_behind : (seen xs : Names) → IsDistinct bytes_eq seen
    → (repeated_behind seen xs ≡ None) ↔ IsDistinct bytes_eq (seen ++ xs)
none_behind seen [] d = (λ h. rw append-nil d, λ h. refl)
none_behind seen (x ∷ xs) d =
    by (is_among seen x) refl (λ f. none_behind (seen ++ x ∷ []) xs f)
  where
    tail : (o : Option ℕ) → option_map suc o ≡ None → o ≡ None
    tail None h = refl
    tail (Some i) h = cc

    by : (b : Bool) → is_among seen x ≡ b
        → (IsDistinct bytes_eq (seen ++ x ∷ [])
        → (repeated_behind (seen ++ x ∷ []) xs ≡ None) ↔ IsDistinct bytes_eq ((seen ++ x ∷ []) ++ xs))
        → (cond b (Some 0) (option_map suc (repeated_behind (seen ++ x ∷ []) xs)) ≡ None)
        ↔ IsDistinct bytes_eq (seen ++ x ∷ xs)
    by true is more = (λ h. cc, λ h. absurd (differ (sym is ∙ fresh seen xs x h)))
      where
        differ : true ≡ false → ⊥
        differ h = cc
    by false is more =
        let both = more (IsDistinct-push nat_list_eq_equiv seen x d is) in (
          λ h. rw (← append_assoc seen (x ∷ []) xs) (both.0 (tail (repeated_behind (seen ++ x ∷ []) xs) h)),
          λ h. ap (λ o. option_map suc o) (both.1 (rw (append_assoc seen (x ∷ []) xs) h)),
        )

pub none_twice : (xs : Names) → (repeated_behind [] xs ≡ None) ↔ AllPairs (λ x y. x ≢ y) xs
unfolding IsDistinct
none_twice xs =
    let both = none_behind [] xs tt in (
      λ h. AllPairs-from_IsDistinct bytes_decides xs (both.0 h),
      λ h. both.1 (IsDistinct-from_AllPairs bytes_decides xs h),
    )
