-- Signed quotients and remainders by what they are, and integers modulo 2 ^ m.
use Rattle.std.proofs.Common.{◌≡◌, ◌≢◌, ℕ, zero, suc, ◌+◌, ◌-◌, ◌*◌, ◌/◌, ◌%◌, ◌^◌, ◌<◌, ◌≤◌, ℤ, pos, negsuc}
use Rattle.std.proofs.Common.{◌+ℤ◌, ◌*ℤ◌, ◌≤ℤ◌, ◌<ℤ◌, sym, subst, arith, div-add-mod', lt_of_le_of_lt}
use Rattle.std.proofs.lemmas.Int.{ints}
use Rattle.std.proofs.lemmas.Nat.{mod_below, pow_pos}
use Rattle.std.proofs.Math.Nat.{div-le_self}
use Rattle.std.specs.Int.{int_div_euclid}
use Rattle.std.specs.Prelude.{int_div, int_rem}
use Rattle.smt_bits.specs.BitVector.{modulo, signed}
use Rattle.smt_bits.specs.Operators as meaning
use Rattle.smt_bits.specs.Readings.{IsFloored, IsModulo, IsTruncated}
use Rattle.smt_bits.proofs.SignedLawLemmas.{bvsmod_at_least, bvsmod_at_most, bvsmod_exact, bvsmod_small}
use Rattle.smt_bits.proofs.SignedLawLemmas.{bvsrem_at_least, bvsrem_at_most, bvsrem_signed, division_exact}
use Rattle.smt_bits.proofs.SignedLawLemmas.{rem_small}
use Rattle.smt_bits.proofs.SignedDivisionLemmas.{bvsdiv_by}
use Rattle.smt_bits.proofs.SignedReadingLemmas.{modulo_below, signed_modulo, signed_within}
use lib.Signed.{mag}

-- ---- modulo 2 ^ m

above : (a w q r : ℕ) → q * w + r ≡ a → pos a ≡ pos r +ℤ pos q *ℤ pos w
above a w q r is = omega (arith, ints)

under : (a w q r : ℕ) → q * w + r ≡ a → r < w → negsuc a ≡ pos (w - 1 - r) +ℤ negsuc q *ℤ pos w
under a w q r is less = omega (arith, ints)

multiple : (m : ℕ) (z : ℤ) → (k : ℤ) × (z ≡ pos (modulo m z) +ℤ k *ℤ pos (2 ^ m))
multiple m (pos a) = (pos (a / 2 ^ m), above a (2 ^ m) (a / 2 ^ m) (a % 2 ^ m) (div-add-mod' a (2 ^ m)))
multiple m (negsuc a) = (
  negsuc (a / 2 ^ m),
  under a (2 ^ m) (a / 2 ^ m) (a % 2 ^ m) (div-add-mod' a (2 ^ m)) (mod_below a (2 ^ m) (pow_pos m)),
)

pub modulo_is : (m : ℕ) (z : ℤ) → IsModulo m z (modulo m z)
modulo_is m z = record { below = modulo_below m z; multiple = multiple m z }

-- ---- towards 0

divided : (m s t : ℕ) → t < 2 ^ m → t ≢ 0 → IsTruncated (signed m s) (signed m t)
    (int_div (signed m s) (signed m t)) (int_rem (signed m s) (signed m t))
divided m s t below some = record {
  exact = division_exact m s t;
  small = rem_small m s t below some;
  at_least_zero = bvsrem_at_least m s t;
  at_most_zero = bvsrem_at_most m s t;
}

pub quotient_whole : (m s t : ℕ) → 1 ≤ m → s < 2 ^ m → t < 2 ^ m → t ≢ 0 → (q : ℤ)
    × IsTruncated (signed m s) (signed m t) q (signed m (meaning.bvsrem m s t))
    × IsModulo m q (meaning.bvsdiv m s t)
quotient_whole m s t wide small below some = (
  int_div (signed m s) (signed m t),
  subst (λ r. IsTruncated (signed m s) (signed m t) (int_div (signed m s) (signed m t)) r)
      (sym (bvsrem_signed m s t wide small below some)) (divided m s t below some),
  subst (λ x. IsModulo m (int_div (signed m s) (signed m t)) x) (sym (bvsdiv_by m s t some))
      (modulo_is m (int_div (signed m s) (signed m t))),
)

-- ---- down

pub modulus_whole : (m s t : ℕ) → 1 ≤ m → s < 2 ^ m → t < 2 ^ m → t ≢ 0
    → (q : ℤ) × IsFloored (signed m s) (signed m t) q (signed m (meaning.bvsmod m s t))
modulus_whole m s t wide small below some =
    let exact = bvsmod_exact m s t wide small below some in (
      exact.0,
      record {
        exact = exact.1;
        small = bvsmod_small m s t wide small below some;
        at_least_zero = bvsmod_at_least m s t wide small below some;
        at_most_zero = bvsmod_at_most m s t wide small below some;
      },
    )

abbrev IsShifted : ℤ → ℕ → ℤ → Type 0
IsShifted z w q = ((q *ℤ pos w) ≤ℤ z) × (z <ℤ ((q +ℤ pos 1) *ℤ pos w))

shifted_above : (a w q r : ℕ) → q * w + r ≡ a → r < w → IsShifted (pos a) w (pos q)
shifted_above a w q r is less = (omega (arith, ints), omega (arith, ints))

shifted_under : (a w q r : ℕ) → q * w + r ≡ a → r < w → IsShifted (negsuc a) w (negsuc q)
shifted_under a w zero r is less = (omega (arith, ints), omega (arith, ints))
shifted_under a w (suc q) r is less =
    let next : negsuc q ≡ negsuc (suc q) +ℤ pos 1 = omega (arith, ints) in
    let high : negsuc a <ℤ (negsuc q *ℤ pos w) = omega (arith, ints) in
    (omega (arith, ints), subst (λ x. negsuc a <ℤ (x *ℤ pos w)) next high)

shifted : (z : ℤ) (w : ℕ) → 0 < w → IsShifted z w (int_div_euclid z (pos w))
shifted (pos a) w some = shifted_above a w (a / w) (a % w) (div-add-mod' a w) (mod_below a w some)
shifted (negsuc a) w some = shifted_under a w (a / w) (a % w) (div-add-mod' a w) (mod_below a w some)

shifted_fits : (z : ℤ) (w h : ℕ) → mag z < h → mag (int_div_euclid z (pos w)) < h
shifted_fits (pos a) w h fits = lt_of_le_of_lt (div-le_self a w) fits
shifted_fits (negsuc a) w h fits = lt_of_le_of_lt (div-le_self a w) fits

pub shift_rounds_down : (m s t : ℕ) → 1 ≤ m → s < 2 ^ m
    → IsShifted (signed m s) (2 ^ t) (signed m (meaning.bvashr m s t))
shift_rounds_down zero s t wide below = absurd (omega arith)
shift_rounds_down (suc h) s t wide below =
    let q = int_div_euclid (signed (suc h) s) (pos (2 ^ t)) in
    subst (λ x. IsShifted (signed (suc h) s) (2 ^ t) x)
    (sym (signed_modulo h q (shifted_fits (signed (suc h) s) (2 ^ t) (2 ^ h) (signed_within h s below))))
    (shifted (signed (suc h) s) (2 ^ t) (pow_pos t))
