-- The name of a declared sort, from a place on.
use Rattle.std.proofs.Common.{◌≡◌, ◌≤◌, ◌+◌, ℕ, zero, suc, cond, List, [], ◌∷◌, length, drop, slice_get, Some}
use Rattle.std.proofs.Common.{None, refl, ap, arith, add-one}
use Rattle.smt_theory.specs.Sort.{Sort}
use Rattle.smt_terms.specs.DeclaredSorts.{declares, name_of_sort}
use Rattle.smt_terms.specs.declared.named_sort.NamedSort.{NamedSort}

name_from : (es : List (List ℕ × NamedSort)) (sort : Sort) (n : ℕ) (p : List ℕ × NamedSort)
    → slice_get es n ≡ Some p
    → name_of_sort (drop n es) sort ≡ cond (declares p.1 sort) (Some p.0) (name_of_sort (drop (suc n) es) sort)
name_from [] sort n p at = cc
name_from (e ∷ es) sort zero p at =
    let is : e ≡ p = cc
    in ap (λ (q : List ℕ × NamedSort). cond (declares q.1 sort) (Some q.0) (name_of_sort es sort)) is
name_from (e ∷ es) sort (suc n) p at = name_from es sort n p at

pub name_on : (es : List (List ℕ × NamedSort)) (sort : Sort) (n : ℕ) (p : List ℕ × NamedSort)
    → slice_get es n ≡ Some p
    → name_of_sort (drop n es) sort ≡ cond (declares p.1 sort) (Some p.0) (name_of_sort (drop (n + 1) es) sort)
name_on es sort n p at = rw add-one (name_from es sort n p at)

-- behind all there is none
pub name_past : (es : List (List ℕ × NamedSort)) (sort : Sort) (n : ℕ) → length es ≤ n
    → name_of_sort (drop n es) sort ≡ None
name_past [] sort zero h = refl
name_past [] sort (suc n) h = refl
name_past (e ∷ es) sort zero h = absurd (omega (arith, h))
name_past (e ∷ es) sort (suc n) h = name_past es sort n (omega (arith, h))
