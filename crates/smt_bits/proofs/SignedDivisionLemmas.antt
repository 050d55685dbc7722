-- Division of signed readings.
use Rattle.std.proofs.Common.{◌≡◌, ◌≢◌, ℕ, zero, suc, ◌+◌, ◌-◌, ◌/◌, ◌%◌, ◌^◌, ◌<◌, ◌≤◌, ℤ, pos, negsuc, ◌+ℤ◌}
use Rattle.std.proofs.Common.{neg_ℤ, ◌≤ℤ◌, ◌<ℤ◌, FitsSigned, cond, sym, ap, ◌∙◌, ⊎_elim, arith, le-ltb}
use Rattle.std.proofs.lemmas.Bool.{cases_lt, ne_eqb}
use Rattle.std.proofs.lemmas.Int.{ints, to_z-of_z}
use Rattle.std.proofs.lemmas.Nat.{mod_below}
use Rattle.std.proofs.Math.Nat.{div-le_self, mod-add-mod, mod-eq_of_lt, mod_self, zero-mod}
use Rattle.std.specs.Int.{w128, cast_signed, cast_unsigned, int_rem_euclid}
use Rattle.std.specs.Prelude.{int_div, unsigned_abs}
use Rattle.smt_bits.specs.BitVector.{is_negative, modulo, signed}
use Rattle.smt_bits.specs.Operators as meaning
use Rattle.smt_bits.proofs.SignedLemmas.{cast_modulo}
use Rattle.smt_bits.proofs.SignedReadingLemmas.{abs_most, abs_neg}

-- the remainder of the next number
record IsMore (w k j : ℕ) : Type 0 where
  below : k < w
  more : k + 1 < w → j ≡ k + 1
  full : k + 1 ≡ w → j ≡ 0

mod_more : (x y : ℕ) → IsMore (suc y) (x % suc y) (suc x % suc y)
mod_more x y =
    let next : suc x ≡ x + 1 = omega arith in
    let e : suc x % suc y ≡ (x % suc y + 1) % suc y = ap (λ n. n % suc y) next ∙ sym (mod-add-mod x (suc y) 1)
    in
    record {
      below = mod_below x (suc y) (omega arith);
      more = λ less. e ∙ mod-eq_of_lt less;
      full = λ same. e ∙ ap (λ n. n % suc y) same ∙ mod_self (suc y);
    }

pub rem_euclid_positive : (a n : ℤ) → pos 0 ≤ℤ int_rem_euclid a n
rem_euclid_positive (pos a) n = omega (arith, ints)
rem_euclid_positive (negsuc a) n = omega (arith, ints)

-- by a negative divisor, the remainder from 0 on is one divisor above the one that is 0 or negative
record FloorOf (r n z : ℤ) : Type 0 where
  adjusted : r ≢ pos 0 → r +ℤ n ≡ z
  exact : r ≡ pos 0 → r ≡ z

floor_above : (y k j : ℕ) → IsMore (suc y) k j → FloorOf (pos j) (negsuc y) (neg_ℤ (pos (suc y - 1 - k)))
floor_above y k j m =
    ⊎_elim
    (λ less. let next = m.more less
    in record { adjusted = λ some. omega (arith, ints); exact = λ same. omega (arith, ints) })
    (λ large. let next = m.full (omega (arith, m.below))
    in record { adjusted = λ some. omega (arith, ints); exact = λ same. omega (arith, ints) })
    (cases_lt (k + 1) (suc y))

floor_below : (y k j : ℕ) → IsMore (suc y) k j → FloorOf (pos (suc y - 1 - k)) (negsuc y) (neg_ℤ (pos j))
floor_below y k j m =
    ⊎_elim
    (λ less. let next = m.more less
    in record { adjusted = λ some. omega (arith, ints); exact = λ same. omega (arith, ints) })
    (λ large. let next = m.full (omega (arith, m.below))
    in record { adjusted = λ some. omega (arith, ints); exact = λ same. omega (arith, ints) })
    (cases_lt (k + 1) (suc y))

floor_at : (a : ℤ) (y : ℕ)
    → FloorOf (int_rem_euclid a (negsuc y)) (negsuc y) (meaning.flooring_remainder a (negsuc y))
floor_at (pos zero) y =
    let none : int_rem_euclid (pos zero) (negsuc y) ≡ pos 0 = ap pos (zero-mod (suc y)) in
    record { adjusted = λ some. absurd (some none); exact = λ same. none ∙ sym (ap neg_ℤ none) }
floor_at (pos (suc x)) y = floor_above y (x % suc y) (suc x % suc y) (mod_more x y)
floor_at (negsuc x) y = floor_below y (x % suc y) (suc x % suc y) (mod_more x y)

pub flooring_adjusted : (a n : ℤ) → n <ℤ pos 0 → int_rem_euclid a n ≢ pos 0
    → int_rem_euclid a n +ℤ n ≡ meaning.flooring_remainder a n
flooring_adjusted a (pos n) negative some = absurd (omega (arith, ints))
flooring_adjusted a (negsuc y) negative some = (floor_at a y).adjusted some

pub flooring_exact : (a n : ℤ) → n <ℤ pos 0 → int_rem_euclid a n ≡ pos 0
    → int_rem_euclid a n ≡ meaning.flooring_remainder a n
flooring_exact a (pos n) negative none = absurd (omega (arith, ints))
flooring_exact a (negsuc y) negative none = (floor_at a y).exact none

pub flooring_positive : (a n : ℤ) → pos 0 ≤ℤ n → int_rem_euclid a n ≡ meaning.flooring_remainder a n
flooring_positive a (pos n) positive = sym
    (ap (λ b. cond b (neg_ℤ (int_rem_euclid (neg_ℤ a) (pos n))) (int_rem_euclid a (pos n)))
    (le-ltb n 0 (omega arith)))
flooring_positive a (negsuc y) positive = absurd (omega (arith, ints))

div_abs : (a n : ℤ) → unsigned_abs (int_div a n) ≤ unsigned_abs a
div_abs (pos a) (pos n) = div-le_self a n
div_abs (pos a) (negsuc n) = omega (arith, abs_neg (pos (a / suc n)), div-le_self a (suc n))
div_abs (negsuc a) (pos n) = omega (arith, abs_neg (pos (suc a / n)), div-le_self (suc a) n)
div_abs (negsuc a) (negsuc n) = div-le_self (suc a) (suc n)

wrapped : (m : ℕ) (z : ℤ) → m ≤ 128 → unsigned_abs z ≤ 2 ^ 127
    → modulo m (cast_signed w128 (cast_unsigned w128 z)) ≡ modulo m z
wrapped m (pos n) within most =
    ⊎_elim
    (λ less. ap (modulo m) (to_z-of_z w128 (pos n) (record { sfits = less })))
    (λ large. let same : n ≡ 2 ^ 127 = omega arith in
    ap (λ k. modulo m (cast_signed w128 k)) same ∙ sym
    (cast_modulo m (negsuc (2 ^ 127 - 1)) within (record { sfits = omega arith })) ∙ ap (λ k. k % 2 ^ m)
    (sym same))
    (cases_lt n (2 ^ 127))
wrapped m (negsuc n) within most = ap (modulo m) (to_z-of_z w128 (negsuc n) (record { sfits = omega arith }))

-- the quotient may be 2 ^ 127, which has the bits of its opposite
pub wrapped_quotient : (m : ℕ) (a n : ℤ) → m ≤ 128 → unsigned_abs a ≤ 2 ^ 127
    → modulo m (cast_signed w128 (cast_unsigned w128 (int_div a n))) ≡ modulo m (int_div a n)
wrapped_quotient m a n within most = wrapped m (int_div a n) within (omega (arith, div_abs a n))

-- what the code's quotient of x by y comes to
pub quotient_is : (m : ℕ) (a n x y q : ℤ) → m ≤ 128 → FitsSigned w128 x → FitsSigned w128 y
    → FitsSigned w128 q → x ≡ a → y ≡ n
    → q ≡ cast_signed w128 (cast_unsigned w128
    (int_div (cast_signed w128 (cast_unsigned w128 x)) (cast_signed w128 (cast_unsigned w128 y))))
    → modulo m (cast_signed w128 (cast_unsigned w128 q)) ≡ modulo m (int_div a n)
quotient_is m a n x y q within fx fy fq is_a is_n is_q =
    let read = λ (z : ℤ). cast_signed w128 (cast_unsigned w128 z) in
    let most : unsigned_abs x ≤ 2 ^ 127 = abs_most (2 ^ 127) x fx.sfits in
    ap (modulo m) (to_z-of_z w128 q fq ∙ is_q)
    ∙ ap (λ z. modulo m (read (int_div z (read y)))) (to_z-of_z w128 x fx)
    ∙ ap (λ z. modulo m (read (int_div x z))) (to_z-of_z w128 y fy)
    ∙ wrapped_quotient m x y within most
    ∙ ap (λ z. modulo m (int_div z y)) is_a
    ∙ ap (λ z. modulo m (int_div a z)) is_n

-- by a number that is not 0
pub bvsdiv_by : (m s t : ℕ) → t ≢ 0 → meaning.bvsdiv m s t ≡ modulo m (int_div (signed m s) (signed m t))
bvsdiv_by m s t some =
    ap (λ b. cond b (cond (is_negative m s) 1 (2 ^ m - 1)) (modulo m (int_div (signed m s) (signed m t))))
    (ne_eqb t 0 some)
