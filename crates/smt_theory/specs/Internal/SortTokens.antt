-- Sorts as lists of numbers, by which a proof tells them apart.
use Rattle.std.specs.Prelude.{◌≡◌, ℕ, zero, suc, ◌+◌, ◌≤◌, List, [], ◌∷◌, refl}
use Rattle.std.specs.Coded.{Coded, code_by, coded×, coded_ℕ, coded_list}
use Rattle.std.proofs.Common.{ap, ◌∙◌, arith}
use Rattle.smt_theory.specs.Sort.{Sort, Boolean, Int, Real, Bits, Free, Array}

-- how deep sorts of arrays nest at most
abbrev pub depth : Sort → ℕ
depth Boolean = 0
depth Int = 0
depth Real = 0
depth (Bits width) = 0
depth (Free command) = 0
depth (Array index element) = suc (depth index + depth element)

-- a sort in front of what follows
abbrev pub tokens : Sort → List ℕ → List ℕ
tokens Boolean rest = 0 ∷ rest
tokens Int rest = 1 ∷ rest
tokens Real rest = 2 ∷ rest
tokens (Bits width) rest = 3 ∷ width ∷ rest
tokens (Free command) rest = 4 ∷ command ∷ rest
tokens (Array index element) rest = 5 ∷ tokens index (tokens element rest)

-- the sort in front, of no more than this depth, and what follows
abbrev pub first_sort : ℕ → List ℕ → Sort × List ℕ
first_sort n (zero ∷ rest) = (Boolean, rest)
first_sort n (suc zero ∷ rest) = (Int, rest)
first_sort n (suc (suc zero) ∷ rest) = (Real, rest)
first_sort n (suc (suc (suc zero)) ∷ width ∷ rest) = (Bits width, rest)
first_sort n (suc (suc (suc (suc zero))) ∷ command ∷ rest) = (Free command, rest)
first_sort (suc n) (suc (suc (suc (suc (suc more)))) ∷ rest) = (
  Array (first_sort n rest).0 (first_sort n (first_sort n rest).1).0,
  (first_sort n (first_sort n rest).1).1,
)
first_sort n rest = (Boolean, rest)

first_again : (sort : Sort) (n : ℕ) (rest : List ℕ) → depth sort ≤ n → first_sort n (tokens sort rest) ≡ (sort, rest)
first_again Boolean zero rest h = refl
first_again Boolean (suc n) rest h = refl
first_again Int zero rest h = refl
first_again Int (suc n) rest h = refl
first_again Real zero rest h = refl
first_again Real (suc n) rest h = refl
first_again (Bits width) zero rest h = refl
first_again (Bits width) (suc n) rest h = refl
first_again (Free command) zero rest h = refl
first_again (Free command) (suc n) rest h = refl
first_again (Array i e) zero rest h = absurd (omega (arith, h))
first_again (Array i e) (suc n) rest h =
    let one : first_sort n (tokens i (tokens e rest)) ≡ (i, tokens e rest) =
    first_again i n (tokens e rest) (omega (arith, h)) in
    let two : first_sort n (tokens e rest) ≡ (e, rest) = first_again e n rest (omega (arith, h)) in
    ap (λ (p : Sort × List ℕ). (Array p.0 (first_sort n p.1).0, (first_sort n p.1).1)) one
    ∙ ap (λ (p : Sort × List ℕ). (Array i p.0, p.1)) two

pub same_again : (sort : Sort) → (first_sort (depth sort) (tokens sort [])).0 ≡ sort
same_again sort = ap (λ (p : Sort × List ℕ). p.0) (first_again sort (depth sort) [] (omega arith))

-- a sort is stored as its depth and its list
abbrev pub sort_code : Coded Sort
sort_code =
    code_by (ℕ × List ℕ) (coded× coded_ℕ (coded_list coded_ℕ)) (λ s. (depth s, tokens s []))
    (λ p. (first_sort p.0 p.1).0) same_again
