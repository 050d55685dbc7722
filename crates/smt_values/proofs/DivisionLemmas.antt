-- The quotient and the remainder are the only ones, and those by 0 are free.
use Rattle.std.proofs.Common.{◌≡◌, ◌≢◌, ℕ, zero, suc, ◌+◌, ◌-◌, ◌*◌, ◌%◌, ◌<◌, ℤ, pos, negsuc, ◌+ℤ◌, ◌*ℤ◌}
use Rattle.std.proofs.Common.{neg_ℤ, ◌≤ℤ◌, ◌<ℤ◌, Bool, true, false, cond, List, ◌∷◌, refl, sym, ap, ◌∙◌}
use Rattle.std.proofs.Common.{◌↔◌, ◌≤◌, ◌/◌, arith, ⊎_elim, div-add-mod', nat_eq}
use Rattle.std.proofs.lemmas.Int.{ints}
use Rattle.std.proofs.lemmas.Nat.{div-mul-add, mod-mul-add, mod_below}
use Rattle.std.proofs.lemmas.Bool.{cases_lt}
use Rattle.std.proofs.lemmas.Bool.Decides.{Decides-int_eq, nat_tests}
use Rattle.std.specs.Int.{int_div_euclid, int_rem_euclid}
use Rattle.std.specs.Ordering.{int_eq}
use Rattle.std.specs.Prelude.{unsigned_abs}
use Rattle.smt_ratios.specs.Rational.{Rational}
use Rattle.smt_values.specs.Element.{Integer, Truth}
use Rattle.smt_values.specs.Numbers.{divided}
use Rattle.smt_values.specs.Operations.{DivisionByZero, at_zero, divides, quotient, remainder}

-- of a dividend from 0 on, and of one below it
from_zero : (a d : ℤ) (b m k : ℕ) → k < suc m → unsigned_abs d ≡ suc m → a ≡ pos (b * suc m + k)
    → pos k ≡ int_rem_euclid a d
from_zero a d b m k h u e = sym
    (ap (λ x. int_rem_euclid x d) e ∙ ap (λ w. pos ((b * suc m + k) % w)) u ∙ ap pos
    (mod-mul-add b (suc m) k h))

below_zero : (a d : ℤ) (b m k : ℕ) → k < suc m → unsigned_abs d ≡ suc m → a ≡ negsuc (b * suc m + (m - k))
    → pos k ≡ int_rem_euclid a d
below_zero a d b m k h u e =
    let less : m - k < suc m = omega arith in
    let left : suc m - 1 - (m - k) ≡ k = omega arith in
    sym (ap (λ x. int_rem_euclid x d) e ∙ ap (λ w. pos (w - 1 - (b * suc m + (m - k)) % w)) u ∙ ap
    (λ r. pos (suc m - 1 - r)) (mod-mul-add b (suc m) (m - k) less) ∙ ap pos left)

-- k is the remainder of a by n where q is the quotient
pub euclid_one : (a n q : ℤ) (k : ℕ) → n ≢ pos 0 → a ≡ n *ℤ q +ℤ pos k → k < unsigned_abs n
    → (q ≡ int_div_euclid a n) × (pos k ≡ int_rem_euclid a n)
euclid_one a (pos zero) q k n e h = absurd (n refl)
euclid_one a (pos (suc m)) (pos j) k n e h =
    let is : a ≡ pos (j * suc m + k) = omega (arith, ints) in (
      sym (ap (λ x. int_div_euclid x (pos (suc m))) is ∙ ap pos (div-mul-add j (suc m) k h)),
      from_zero a
          (pos (suc m)) j m k h refl is,
    )
euclid_one a (pos (suc m)) (negsuc j) k n e h =
    let is : a ≡ negsuc (j * suc m + (m - k)) = omega (arith, ints) in
    let less : m - k < suc m = omega arith in (
      sym (ap (λ x. int_div_euclid x (pos (suc m))) is ∙ ap negsuc (div-mul-add j (suc m) (m - k) less)),
      below_zero a (pos (suc m)) j m k h refl is,
    )
euclid_one a (negsuc m) (pos zero) k n e h =
    let is : a ≡ pos (0 * suc m + k) = omega (arith, ints) in (
      sym (ap (λ x. int_div_euclid x (negsuc m)) is ∙ ap (λ x. neg_ℤ (pos x)) (div-mul-add 0 (suc m) k h)),
      from_zero a (negsuc m) 0 m k h refl is,
    )
euclid_one a (negsuc m) (pos (suc j)) k n e h =
    let is : a ≡ negsuc (j * suc m + (m - k)) = omega (arith, ints) in
    let less : m - k < suc m = omega arith in (
      sym (ap (λ x. int_div_euclid x (negsuc m)) is ∙ ap (λ x. pos (suc x))
          (div-mul-add j (suc m) (m - k) less)),
      below_zero a (negsuc m) j m k h refl is,
    )
euclid_one a (negsuc m) (negsuc j) k n e h =
    let is : a ≡ pos (suc j * suc m + k) = omega (arith, ints) in (
      sym (ap (λ x. int_div_euclid x (negsuc m)) is ∙ ap (λ x. neg_ℤ (pos x))
          (div-mul-add (suc j) (suc m) k h)),
      from_zero a (negsuc m) (suc j) m k h refl is,
    )

-- `div` and `mod` are that quotient and that remainder
pub division_one : (z : DivisionByZero) (a n q r : ℤ) → n ≢ pos 0 → a ≡ n *ℤ q +ℤ r → pos 0 ≤ℤ r
    → r <ℤ pos (unsigned_abs n) → (q ≡ quotient z a n) × (r ≡ remainder z a n)
division_one z a n q (negsuc k) h e low high = absurd (omega (arith, ints))
division_one z a n q (pos k) h e low high =
    let one = euclid_one a n q k h e (omega (arith, ints))
    in by (int_eq n (pos 0)) (Decides-int_eq n (pos 0)).0 one
  where
    by : (b : Bool) → (b ≡ true → n ≡ pos 0) → (q ≡ int_div_euclid a n) × (pos k ≡ int_rem_euclid a n)
        → (q ≡ cond b (at_zero z.quotients a) (int_div_euclid a n))
        × (pos k ≡ cond b (at_zero z.remainders a) (int_rem_euclid a n))
    by true f one = absurd (h (f refl))
    by false f one = one

-- ---- by 0

-- what a table gives with one more row
at_row : (table : List (ℤ × ℤ)) (a r : ℤ) → at_zero ((a, r) ∷ table) a ≡ r
at_row table a r = by (int_eq a a) ((Decides-int_eq a a).1 refl)
  where
    by : (b : Bool) → b ≡ true → cond b r (at_zero table a) ≡ r
    by true e = refl
    by false e = cc

beside_row : (table : List (ℤ × ℤ)) (a r b : ℤ) → b ≢ a → at_zero ((a, r) ∷ table) b ≡ at_zero table b
beside_row table a r b other = by (int_eq b a) (Decides-int_eq b a).0
  where
    by : (c : Bool) → (c ≡ true → b ≡ a) → cond c r (at_zero table b) ≡ at_zero table b
    by true same = absurd (other (same refl))
    by false same = refl

pub quotient_free : (z : DivisionByZero) (a r : ℤ) → (y : DivisionByZero) × (quotient y a (pos 0) ≡ r)
    × ((b n : ℤ) → b ≢ a → quotient y b n ≡ quotient z b n) × ((b n : ℤ) → remainder y b n ≡ remainder z b n)
    × ((b n : Rational) → divided y.ratios b n ≡ divided z.ratios b n)
quotient_free z a r = (
  record z { quotients = (a, r) ∷ z.quotients },
  at_row z.quotients a r,
  λ b n other. ap (λ x. cond (int_eq n (pos 0)) x (int_div_euclid b n)) (beside_row z.quotients a r b other),
  λ b n. refl,
  λ b n. refl,
)

pub remainder_free : (z : DivisionByZero) (a r : ℤ) → (y : DivisionByZero) × (remainder y a (pos 0) ≡ r)
    × ((b n : ℤ) → b ≢ a → remainder y b n ≡ remainder z b n) × ((b n : ℤ) → quotient y b n ≡ quotient z b n)
    × ((b n : Rational) → divided y.ratios b n ≡ divided z.ratios b n)
remainder_free z a r = (
  record z { remainders = (a, r) ∷ z.remainders },
  at_row z.remainders a r,
  λ b n other. ap (λ x. cond (int_eq n (pos 0)) x (int_rem_euclid b n)) (beside_row z.remainders a r b other),
  λ b n. refl,
  λ b n. refl,
)

-- ---- divisors

remainder_is : (z : DivisionByZero) (n : ℕ) (x : ℤ) → 0 < n → remainder z x (pos n) ≡ int_rem_euclid x (pos n)
remainder_is z n x some = by (int_eq (pos n) (pos 0)) (Decides-int_eq (pos n) (pos 0)).0
  where
    by : (b : Bool) → (b ≡ true → pos n ≡ pos 0)
        → cond b (at_zero z.remainders x) (int_rem_euclid x (pos n)) ≡ int_rem_euclid x (pos n)
    by true none = absurd (let e : pos n ≡ pos 0 = none refl in omega (arith, ints))
    by false none = refl

-- one more than a number leaves nothing where the number leaves the most
next_leaves : (a m : ℕ) → (suc a % suc m ≡ 0) ↔ (suc m - 1 - a % suc m ≡ 0)
next_leaves a m = (⊎_elim less most (cases_lt r m), back)
  where
    r : ℕ
    r = a % suc m

    less : a % suc m < m → suc a % suc m ≡ 0 → suc m - 1 - a % suc m ≡ 0
    less h e =
        let is : suc a ≡ a / suc m * suc m + suc (a % suc m) = omega (arith, div-add-mod' a (suc m)) in
        let left : suc a % suc m ≡ suc (a % suc m)
        = ap (λ x. x % suc m) is ∙ mod-mul-add (a / suc m) (suc m) (suc (a % suc m)) (omega arith) in
        absurd (omega arith)

    most : m ≤ a % suc m → suc a % suc m ≡ 0 → suc m - 1 - a % suc m ≡ 0
    most h e = omega arith

    back : suc m - 1 - a % suc m ≡ 0 → suc a % suc m ≡ 0
    back h =
        let is : suc a ≡ suc (a / suc m) * suc m + 0 = omega (arith, div-add-mod' a (suc m), mod_below a (suc m) (omega arith)) in
        ap (λ x. x % suc m) is ∙ mod-mul-add (suc (a / suc m)) (suc m) 0 (omega arith)

leaves_nothing : (n : ℕ) (x : ℤ) → 0 < n → (unsigned_abs x % n ≡ 0) ↔ (int_rem_euclid x (pos n) ≡ pos 0)
leaves_nothing n (pos a) some = (λ h. ap pos h, λ h. cc)
leaves_nothing zero (negsuc a) some = absurd (omega arith)
leaves_nothing (suc m) (negsuc a) some =
    let next = next_leaves a m in (λ h. ap pos (next.0 h), λ h. next.1 (cc))

pub divides_is : (z : DivisionByZero) (n : ℕ) (x : ℤ) → 0 < n
    → (Truth (divides n x) ≡ Truth true) ↔ (Integer (remainder z x (pos n)) ≡ Integer (pos 0))
divides_is z n x some =
    let all = leaves_nothing n x some in
    let is = remainder_is z n x some in
    (λ h. ap Integer (is ∙ all.0 (zero_of (unsigned_abs x % n) (cc))), λ h. ap Truth (of_zero _ (all.1 (cc))))
  where
    zero_of : (k : ℕ) → nat_eq k 0 ≡ true → k ≡ 0
    zero_of k h = grind (arith, nat_tests)

    of_zero : (k : ℕ) → k ≡ 0 → nat_eq k 0 ≡ true
    of_zero k h = rw h refl
