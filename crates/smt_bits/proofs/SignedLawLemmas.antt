-- The laws of signed division.
use Rattle.std.proofs.Common.{◌≡◌, ◌≢◌, ℕ, zero, suc, ◌-◌, ◌/◌, ◌^◌, ◌<◌, ◌≤◌, ℤ, pos, negsuc, ◌+ℤ◌, ◌*ℤ◌}
use Rattle.std.proofs.Common.{neg_ℤ, ◌≤ℤ◌, ◌<ℤ◌, Bool, true, false, cond, eqb, refl, sym, ap, subst, ◌∙◌}
use Rattle.std.proofs.Common.{arith, lt_of_le_of_lt, div-add-mod'}
use Rattle.std.proofs.lemmas.Bool.{ne_eqb}
use Rattle.std.proofs.lemmas.Bool.Decides.{nat_tests}
use Rattle.std.proofs.lemmas.Int.{ints, quot-rem, rem_below}
use Rattle.std.proofs.lemmas.Nat.{mod_below}
use Rattle.std.proofs.Math.Nat.{zero-mod}
use Rattle.std.proofs.Math.Pow.{pow_mono}
use Rattle.std.specs.Int.{int_rem_euclid}
use Rattle.std.specs.Prelude.{int_div, int_rem, unsigned_abs}
use Rattle.smt_bits.specs.BitVector.{is_negative, modulo, signed}
use Rattle.smt_bits.specs.Operators as meaning
use Rattle.smt_bits.proofs.SignedDivisionLemmas.{flooring_positive, rem_euclid_positive}
use Rattle.smt_bits.proofs.SignedReadingLemmas.{abs_most, abs_neg, modulo_below, signed_modulo}
use Rattle.smt_bits.proofs.SignedReadingLemmas.{signed_nonzero, signed_within}
use lib.Signed.{mag}

-- ---- the range

mag_fits : (m : ℕ) (z : ℤ) → neg_ℤ (pos (2 ^ m)) ≤ℤ z → z <ℤ pos (2 ^ m) → mag z < 2 ^ m
mag_fits m (pos n) low high = omega (arith, ints)
mag_fits m (negsuc n) low high = omega (arith, ints)

pub integer_back : (m : ℕ) (z : ℤ) → neg_ℤ (pos (2 ^ m)) ≤ℤ z → z <ℤ pos (2 ^ m)
    → signed (suc m) (modulo (suc m) z) ≡ z
integer_back m z low high = signed_modulo m z (mag_fits m z low high)

at_least : (w : ℕ) (z : ℤ) → mag z < w → neg_ℤ (pos w) ≤ℤ z
at_least w (pos n) fits = omega (arith, ints)
at_least w (negsuc n) fits = omega (arith, ints)

at_most : (w : ℕ) (z : ℤ) → mag z < w → z <ℤ pos w
at_most w (pos n) fits = omega (arith, ints)
at_most w (negsuc n) fits = omega (arith, ints)

pub signed_at_least : (m s : ℕ) → s < 2 ^ suc m → neg_ℤ (pos (2 ^ m)) ≤ℤ signed (suc m) s
signed_at_least m s below = at_least (2 ^ m) (signed (suc m) s) (signed_within m s below)

pub signed_at_most : (m s : ℕ) → s < 2 ^ suc m → signed (suc m) s <ℤ pos (2 ^ m)
signed_at_most m s below = at_most (2 ^ m) (signed (suc m) s) (signed_within m s below)

-- ---- the remainder towards 0

abs_some : (z : ℤ) → z ≢ pos 0 → 0 < unsigned_abs z
abs_some (pos zero) some = absurd (some refl)
abs_some (pos (suc n)) some = omega arith
abs_some (negsuc n) some = omega arith

mag_most : (z : ℤ) → mag z ≤ unsigned_abs z
mag_most (pos n) = omega arith
mag_most (negsuc n) = omega arith

-- what is nearer to 0 than a number of m bits fits
nearer : (m t : ℕ) (z : ℤ) → 1 ≤ m → t < 2 ^ m → unsigned_abs z < unsigned_abs (signed m t)
    → signed m (modulo m z) ≡ z
nearer zero t z some below less = absurd (omega arith)
nearer (suc h) t z some below less =
    signed_modulo h z (omega
    (arith, mag_most z, abs_most (2 ^ h) (signed (suc h) t) (signed_within h t below), less))

pub rem_small : (m s t : ℕ) → t < 2 ^ m → t ≢ 0
    → unsigned_abs (int_rem (signed m s) (signed m t)) < unsigned_abs (signed m t)
rem_small m s t below some =
    rem_below (signed m s) (signed m t) (abs_some (signed m t) (signed_nonzero m t below some))

bvsrem_by : (m s t : ℕ) → t ≢ 0 → meaning.bvsrem m s t ≡ modulo m (int_rem (signed m s) (signed m t))
bvsrem_by m s t some = ap (λ b. cond b s (modulo m (int_rem (signed m s) (signed m t)))) (ne_eqb t 0 some)

pub bvsrem_signed : (m s t : ℕ) → 1 ≤ m → s < 2 ^ m → t < 2 ^ m → t ≢ 0
    → signed m (meaning.bvsrem m s t) ≡ int_rem (signed m s) (signed m t)
bvsrem_signed m s t wide small below some =
    ap (signed m) (bvsrem_by m s t some) ∙ nearer m t (int_rem (signed m s) (signed m t)) wide below
    (rem_small m s t below some)

rem_at_least : (a n : ℤ) → pos 0 ≤ℤ a → pos 0 ≤ℤ int_rem a n
rem_at_least (pos a) n up = omega (arith, ints)
rem_at_least (negsuc a) n up = absurd (omega (arith, ints))

rem_at_most : (a n : ℤ) → a ≤ℤ pos 0 → int_rem a n ≤ℤ pos 0
rem_at_most (pos zero) n down = omega (arith, ints, zero-mod (unsigned_abs n))
rem_at_most (pos (suc a)) n down = absurd (omega (arith, ints))
rem_at_most (negsuc a) n down = omega (arith, ints)

pub bvsrem_at_least : (m s t : ℕ) → pos 0 ≤ℤ signed m s → pos 0 ≤ℤ int_rem (signed m s) (signed m t)
bvsrem_at_least m s t = rem_at_least (signed m s) (signed m t)

pub bvsrem_at_most : (m s t : ℕ) → signed m s ≤ℤ pos 0 → int_rem (signed m s) (signed m t) ≤ℤ pos 0
bvsrem_at_most m s t = rem_at_most (signed m s) (signed m t)

pub division_exact : (m s t : ℕ)
    → signed m s ≡ int_div (signed m s) (signed m t) *ℤ signed m t +ℤ int_rem (signed m s) (signed m t)
division_exact m s t = sym (quot-rem (signed m s) (signed m t))

-- ---- the remainder of the division that rounds down

euclid_small : (a n : ℤ) → 0 < unsigned_abs n → unsigned_abs (int_rem_euclid a n) < unsigned_abs n
euclid_small (pos a) n some = mod_below a (unsigned_abs n) some
euclid_small (negsuc a) n some = omega arith

floor_small : (a n : ℤ) → n ≢ pos 0 → unsigned_abs (meaning.flooring_remainder a n) < unsigned_abs n
floor_small a (pos n) some =
    subst (λ z. unsigned_abs z < n) (flooring_positive a (pos n) (omega (arith, ints)))
    (euclid_small a (pos n) (abs_some (pos n) some))
floor_small a (negsuc n) some =
    let small = euclid_small (neg_ℤ a) (negsuc n) (abs_some (negsuc n) some) in
    lt_of_le_of_lt (omega (arith, abs_neg (int_rem_euclid (neg_ℤ a) (negsuc n)))) small

floor_at_least : (a n : ℤ) → pos 0 ≤ℤ n → pos 0 ≤ℤ meaning.flooring_remainder a n
floor_at_least a n up = subst (λ z. pos 0 ≤ℤ z) (flooring_positive a n up) (rem_euclid_positive a n)

neg_at_most : (z : ℤ) → pos 0 ≤ℤ z → neg_ℤ z ≤ℤ pos 0
neg_at_most z up = omega (arith, ints)

floor_at_most : (a n : ℤ) → n ≢ pos 0 → n ≤ℤ pos 0 → meaning.flooring_remainder a n ≤ℤ pos 0
floor_at_most a (pos zero) some down = absurd (some refl)
floor_at_most a (pos (suc n)) some down = absurd (omega (arith, ints))
floor_at_most a (negsuc n) some down =
    neg_at_most (int_rem_euclid (neg_ℤ a) (negsuc n)) (rem_euclid_positive (neg_ℤ a) (negsuc n))

abbrev IsFloored : ℤ → ℤ → ℤ → Type 0
IsFloored a n r = (q : ℤ) × (a ≡ q *ℤ n +ℤ r)

floor_exact : (a n : ℤ) → n ≢ pos 0 → IsFloored a n (meaning.flooring_remainder a n)
floor_exact a (pos n) some =
    subst (λ r. IsFloored a (pos n) r) (flooring_positive a (pos n) (omega (arith, ints))) (up a n some)
  where
    up : (a : ℤ) (n : ℕ) → pos n ≢ pos 0 → IsFloored a (pos n) (int_rem_euclid a (pos n))
    up a zero some = absurd (some refl)
    up (pos a) (suc n) some = (pos (a / suc n), omega (arith, ints, div-add-mod' a (suc n)))
    up (negsuc a) (suc n) some =
        let low = mod_below a (suc n) (omega arith)
        in (negsuc (a / suc n), omega (arith, ints, div-add-mod' a (suc n)))
floor_exact (pos zero) (negsuc n) some = (pos 0, omega (arith, ints, zero-mod (suc n)))
floor_exact (pos (suc a)) (negsuc n) some =
    let low = mod_below a (suc n) (omega arith)
    in (negsuc (a / suc n), omega (arith, ints, div-add-mod' a (suc n)))
floor_exact (negsuc a) (negsuc n) some =
    (pos (suc a / suc n), omega (arith, ints, div-add-mod' (suc a) (suc n)))

bvsmod_by : (m s t : ℕ) → t ≢ 0
    → meaning.bvsmod m s t ≡ modulo m (meaning.flooring_remainder (signed m s) (signed m t))
bvsmod_by m s t some =
    ap (λ b. cond b s (modulo m (meaning.flooring_remainder (signed m s) (signed m t)))) (ne_eqb t 0 some)

bvsmod_signed : (m s t : ℕ) → 1 ≤ m → t < 2 ^ m → t ≢ 0
    → meaning.flooring_remainder (signed m s) (signed m t) ≡ signed m (meaning.bvsmod m s t)
bvsmod_signed m s t wide below some =
    let small = floor_small (signed m s) (signed m t) (signed_nonzero m t below some) in
    sym (ap (signed m) (bvsmod_by m s t some) ∙ nearer m t
    (meaning.flooring_remainder (signed m s) (signed m t)) wide below small)

pub bvsmod_exact : (m s t : ℕ) → 1 ≤ m → s < 2 ^ m → t < 2 ^ m → t ≢ 0
    → (q : ℤ) × (signed m s ≡ q *ℤ signed m t +ℤ signed m (meaning.bvsmod m s t))
bvsmod_exact m s t wide small below some =
    subst (λ r. IsFloored (signed m s) (signed m t) r) (bvsmod_signed m s t wide below some)
    (floor_exact (signed m s) (signed m t) (signed_nonzero m t below some))

pub bvsmod_small : (m s t : ℕ) → 1 ≤ m → s < 2 ^ m → t < 2 ^ m → t ≢ 0
    → unsigned_abs (signed m (meaning.bvsmod m s t)) < unsigned_abs (signed m t)
bvsmod_small m s t wide small below some =
    subst (λ r. unsigned_abs r < unsigned_abs (signed m t)) (bvsmod_signed m s t wide below some)
    (floor_small (signed m s) (signed m t) (signed_nonzero m t below some))

pub bvsmod_at_least : (m s t : ℕ) → 1 ≤ m → s < 2 ^ m → t < 2 ^ m → t ≢ 0 → pos 0 ≤ℤ signed m t
    → pos 0 ≤ℤ signed m (meaning.bvsmod m s t)
bvsmod_at_least m s t wide small below some up =
    subst (λ r. pos 0 ≤ℤ r) (bvsmod_signed m s t wide below some)
    (floor_at_least (signed m s) (signed m t) up)

pub bvsmod_at_most : (m s t : ℕ) → 1 ≤ m → s < 2 ^ m → t < 2 ^ m → t ≢ 0 → signed m t ≤ℤ pos 0
    → signed m (meaning.bvsmod m s t) ≤ℤ pos 0
bvsmod_at_most m s t wide small below some down =
    subst (λ r. r ≤ℤ pos 0) (bvsmod_signed m s t wide below some)
    (floor_at_most (signed m s) (signed m t) (signed_nonzero m t below some) down)

-- ---- one bit

pub compared : (s t : ℕ) → meaning.bvcomp s t ≡ 1 → s ≡ t
compared s t set = grind (arith, nat_tests)

-- ---- the results' widths

by_test : (b : Bool) (x y w : ℕ) → x < w → y < w → cond b x y < w
by_test true x y w first second = first
by_test false x y w first second = second

pub bvsdiv_below : (m s t : ℕ) → 1 ≤ m → meaning.bvsdiv m s t < 2 ^ m
bvsdiv_below m s t wide =
    let two : 2 ^ 1 ≤ 2 ^ m = pow_mono wide in
    by_test (eqb t 0) (cond (is_negative m s) 1 (2 ^ m - 1)) (modulo m (int_div (signed m s) (signed m t)))
    (2 ^ m)
    (by_test (is_negative m s) 1 (2 ^ m - 1) (2 ^ m) (omega arith) (omega arith))
    (modulo_below m (int_div (signed m s) (signed m t)))

pub bvsrem_below : (m s t : ℕ) → s < 2 ^ m → meaning.bvsrem m s t < 2 ^ m
bvsrem_below m s t below = by_test (eqb t 0) s (modulo m (int_rem (signed m s) (signed m t))) (2 ^ m) below
    (modulo_below m (int_rem (signed m s) (signed m t)))

pub bvsmod_below : (m s t : ℕ) → s < 2 ^ m → meaning.bvsmod m s t < 2 ^ m
bvsmod_below m s t below =
    let r = meaning.flooring_remainder (signed m s) (signed m t)
    in by_test (eqb t 0) s (modulo m r) (2 ^ m) below (modulo_below m r)
