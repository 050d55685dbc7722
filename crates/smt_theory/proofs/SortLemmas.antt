-- Sorts and their numbers.
use Rattle.std.proofs.Common.{◌≡◌, ℕ, ◌+◌, ◌-◌, ◌*◌, ◌/◌, ◌%◌, ◌^◌, ◌<◌, ◌≤◌, ◌∙◌, Bool, true, false, cond, nat_eq, nat_lt}
use Rattle.std.proofs.Common.{refl, ap, sym, subst, arith, eq-eqb, true≢false, ◌⊎◌, inl, inr}
use Rattle.std.proofs.lemmas.Bool.{cases_order, eqb-false, eqb-true}
use Rattle.smt_theory.specs.Sort.{Sort, Boolean, Int, Real, Bits, Free, Array, is_same_sort}
use Rattle.smt_theory.specs.Internal.SortCodes.{IsBelow, IsPlainSort, IsSort, array_of_code, code_of}
use Rattle.smt_theory.specs.Internal.SortCodes.{nested_of_code, plain_of_code, sort_of_code}
use Rattle.smt_theory.proofs.RankLemmas.{is_same_sort-Decides, nat_lt-Decides}

same_tests : (b c : Bool) → (b ≡ true → c ≡ true) → (c ≡ true → b ≡ true) → b ≡ c
same_tests true c f g = sym (f refl)
same_tests false true f g = g refl
same_tests false false f g = refl

-- two sorts are the same where their numbers are
pub same_codes : (a b : Sort) (c d : ℕ) → sort_of_code c ≡ a → sort_of_code d ≡ b → code_of (sort_of_code c) ≡ c
    → code_of (sort_of_code d) ≡ d → nat_eq c d ≡ is_same_sort a b
same_codes a b c d p q h k =
    same_tests (nat_eq c d) (is_same_sort a b)
    (λ e. (is_same_sort-Decides a b).1 (sym p ∙ ap sort_of_code (eqb-true c d e) ∙ q))
    (λ e.
    eq-eqb c d
    (sym h ∙ ap code_of (p ∙ (is_same_sort-Decides a b).0 e ∙ sym q) ∙ k))

below : (m n : ℕ) → m < n → nat_lt m n ≡ true
below m n h = (nat_lt-Decides m n).1 h

not_below : (m n : ℕ) → n ≤ m → nat_lt m n ≡ false
not_below m n h = by (nat_lt m n) (nat_lt-Decides m n).0
  where
    by : (b : Bool) → (b ≡ true → m < n) → b ≡ false
    by true f = absurd (let less : m < n = f refl in omega (arith, h))
    by false f = refl

at_least : (m n : ℕ) → nat_lt m n ≡ false → n ≤ m
at_least m n e = by (cases_order m n)
  where
    by : (m ≡ n) ⊎ ((m < n) ⊎ (n < m)) → n ≤ m
    by (inl h) = omega (arith, h)
    by (inr (inl h)) = absurd (true≢false (sym (below m n h) ∙ e))
    by (inr (inr h)) = omega (arith, h)

-- what a number is the number of, by its size
abbrev by_size : ℕ → Bool → Bool → Sort
by_size c b d =
    cond b (plain_of_code c) (cond d (array_of_code (c - 2 ^ 62)) (nested_of_code (c - 2 ^ 63)))

pub plain_view : (c : ℕ) → c < 2 ^ 62 → sort_of_code c ≡ plain_of_code c
plain_view c h = ap (λ b. by_size c b (nat_lt c (2 ^ 63))) (below c (2 ^ 62) h)

pub array_view : (c : ℕ) → 2 ^ 62 ≤ c → c < 2 ^ 63 → sort_of_code c ≡ array_of_code (c - 2 ^ 62)
array_view c h k =
    ap (λ b. by_size c b (nat_lt c (2 ^ 63))) (not_below c (2 ^ 62) h) ∙ ap (by_size c false) (below c (2 ^ 63) k)

pub nested_view : (c : ℕ) → 2 ^ 63 ≤ c → sort_of_code c ≡ nested_of_code (c - 2 ^ 63)
nested_view c h =
    ap (λ b. by_size c b (nat_lt c (2 ^ 63))) (not_below c (2 ^ 62) (omega (arith, h)))
    ∙ ap (by_size c false) (not_below c (2 ^ 63) h)

-- a number of no sort of arrays is that of its sort
pub code_again : (c : ℕ) → code_of (plain_of_code c) ≡ c
code_again c = zero_by (nat_eq c 0) refl
  where
    bits_by : (b : Bool) → nat_lt c 131 ≡ b → 2 ≤ c → code_of (cond b (Bits (c - 2)) (Free (c - 131))) ≡ c
    bits_by true e more = omega (arith, more)
    bits_by false e more = let many : 131 ≤ c = at_least c 131 e in omega (arith, many)

    two_by : (b : Bool) → nat_eq c 2 ≡ b → 2 ≤ c
        → code_of (cond b Real (cond (nat_lt c 131) (Bits (c - 2)) (Free (c - 131)))) ≡ c
    two_by true e more = sym (eqb-true c 2 e)
    two_by false e more = bits_by (nat_lt c 131) refl more

    one_by : (b : Bool) → nat_eq c 1 ≡ b → 1 ≤ c
        → code_of (cond b Int (cond (nat_eq c 2) Real (cond (nat_lt c 131) (Bits (c - 2)) (Free (c - 131))))) ≡ c
    one_by true e more = sym (eqb-true c 1 e)
    one_by false e more = two_by (nat_eq c 2) refl (let other : c ≡ 1 → ⊥ = eqb-false c 1 e in omega (arith, more))

    zero_by : (b : Bool) → nat_eq c 0 ≡ b
        → code_of (cond b Boolean (cond (nat_eq c 1) Int (cond (nat_eq c 2) Real (cond (nat_lt c 131) (Bits (c - 2)) (Free (c - 131))))))
        ≡ c
    zero_by true e = sym (eqb-true c 0 e)
    zero_by false e = one_by (nat_eq c 1) refl (let other : c ≡ 0 → ⊥ = eqb-false c 0 e in omega arith)

plain_there : (c : ℕ) → c < 2 ^ 31 → IsPlainSort (plain_of_code c)
plain_there c h = zero_by (nat_eq c 0) refl
  where
    bits_by : (b : Bool) → nat_lt c 131 ≡ b → 3 ≤ c → IsPlainSort (cond b (Bits (c - 2)) (Free (c - 131)))
    bits_by true e more =
        let less : c < 131 = (nat_lt-Decides c 131).0 e in (omega (arith, more), omega (arith, less))
    bits_by false e more = omega (arith, h)

    two_by : (b : Bool) → nat_eq c 2 ≡ b → 2 ≤ c
        → IsPlainSort (cond b Real (cond (nat_lt c 131) (Bits (c - 2)) (Free (c - 131))))
    two_by true e more = tt
    two_by false e more = bits_by (nat_lt c 131) refl (let other : c ≡ 2 → ⊥ = eqb-false c 2 e in omega (arith, more))

    one_by : (b : Bool) → nat_eq c 1 ≡ b → 1 ≤ c
        → IsPlainSort (cond b Int (cond (nat_eq c 2) Real (cond (nat_lt c 131) (Bits (c - 2)) (Free (c - 131)))))
    one_by true e more = tt
    one_by false e more = two_by (nat_eq c 2) refl (let other : c ≡ 1 → ⊥ = eqb-false c 1 e in omega (arith, more))

    zero_by : (b : Bool) → nat_eq c 0 ≡ b
        → IsPlainSort (cond b Boolean (cond (nat_eq c 1) Int (cond (nat_eq c 2) Real (cond (nat_lt c 131) (Bits (c - 2)) (Free (c - 131))))))
    zero_by true e = tt
    zero_by false e = one_by (nat_eq c 1) refl (let other : c ≡ 0 → ⊥ = eqb-false c 0 e in omega arith)

-- ---- arrays of arrays

abbrev pub nested_code : ℕ → ℕ → ℕ → ℕ
nested_code i j f = 2 ^ 63 + (i * 2 ^ 40 + (j * 2 ^ 20 + f))

pub nested_parts : (i j f : ℕ) → i < 2 ^ 20 → j < 2 ^ 20 → f < 2 ^ 20
    → sort_of_code (nested_code i j f) ≡ Array (plain_of_code i) (Array (plain_of_code j) (plain_of_code f))
nested_parts i j f h k l =
    let rest : nested_code i j f - 2 ^ 63 ≡ i * 2 ^ 40 + (j * 2 ^ 20 + f) = omega arith in
    let first : (i * 2 ^ 40 + (j * 2 ^ 20 + f)) / 2 ^ 40 ≡ i = omega (arith, k, l) in
    let second : (i * 2 ^ 40 + (j * 2 ^ 20 + f)) / 2 ^ 20 ≡ i * 2 ^ 20 + j = omega (arith, l) in
    let middle : (i * 2 ^ 20 + j) % 2 ^ 20 ≡ j = omega (arith, k) in
    let last : (i * 2 ^ 40 + (j * 2 ^ 20 + f)) % 2 ^ 20 ≡ f = omega (arith, l) in
    nested_view (nested_code i j f) (omega arith)
    ∙ ap nested_of_code rest
    ∙ ap (λ n. Array (plain_of_code n) (Array (plain_of_code ((i * 2 ^ 40 + (j * 2 ^ 20 + f)) / 2 ^ 20 % 2 ^ 20))
    (plain_of_code ((i * 2 ^ 40 + (j * 2 ^ 20 + f)) % 2 ^ 20)))) first
    ∙ ap (λ n. Array (plain_of_code i) (Array (plain_of_code (n % 2 ^ 20))
    (plain_of_code ((i * 2 ^ 40 + (j * 2 ^ 20 + f)) % 2 ^ 20)))) second
    ∙ ap (λ n. Array (plain_of_code i) (Array (plain_of_code n)
    (plain_of_code ((i * 2 ^ 40 + (j * 2 ^ 20 + f)) % 2 ^ 20)))) middle
    ∙ ap (λ n. Array (plain_of_code i) (Array (plain_of_code j) (plain_of_code n))) last

small : (c : ℕ) → c < 2 ^ 20 → IsBelow (2 ^ 20) (plain_of_code c)
small c h =
    (plain_there c (omega (arith, h)), subst (λ n. n < 2 ^ 20) (sym (code_again c)) h)

pub nested_sort : (i j f : ℕ) → i < 2 ^ 20 → j < 2 ^ 20 → f < 2 ^ 20
    → (code_of (sort_of_code (nested_code i j f)) ≡ nested_code i j f) × IsSort (sort_of_code (nested_code i j f))
nested_sort i j f h k l =
    subst (λ s. (code_of s ≡ nested_code i j f) × IsSort s) (sym (nested_parts i j f h k l)) (
      ap (λ n. nested_code n (code_of (plain_of_code j)) (code_of (plain_of_code f))) (code_again i)
          ∙ ap (λ n. nested_code i n (code_of (plain_of_code f))) (code_again j)
          ∙ ap (nested_code i j) (code_again f),
      (small i h, small j k, small f l),
    )

-- the sort of the elements, by its two numbers
pub inner_view : (j f : ℕ) → j < 2 ^ 20 → f < 2 ^ 20
    → sort_of_code (2 ^ 62 + (j * 2 ^ 31 + f)) ≡ Array (plain_of_code j) (plain_of_code f)
inner_view j f h k =
    let rest : 2 ^ 62 + (j * 2 ^ 31 + f) - 2 ^ 62 ≡ j * 2 ^ 31 + f = omega arith in
    let first : (j * 2 ^ 31 + f) / 2 ^ 31 ≡ j = omega (arith, k) in
    let last : (j * 2 ^ 31 + f) % 2 ^ 31 ≡ f = omega (arith, k) in
    array_view (2 ^ 62 + (j * 2 ^ 31 + f)) (omega arith) (omega (arith, h, k))
    ∙ ap array_of_code rest
    ∙ ap (λ n. Array (plain_of_code n) (plain_of_code ((j * 2 ^ 31 + f) % 2 ^ 31))) first
    ∙ ap (λ n. Array (plain_of_code j) (plain_of_code n)) last

-- of a number of arrays of arrays that there is, the first of the three is small
pub few_left : (c : ℕ) → 2 ^ 63 ≤ c → IsSort (sort_of_code c) → (c - 2 ^ 63) / 2 ^ 40 < 2 ^ 20
few_left c h is =
    let there = subst IsSort (nested_view c h) is in
    subst (λ n. n < 2 ^ 20) (code_again ((c - 2 ^ 63) / 2 ^ 40)) there.0.1
