-- Shifts of the machine's 128 bits by any number.
use Rattle.std.proofs.Common.{◌≡◌, ℕ, ◌+◌, ◌-◌, ◌*◌, ◌/◌, ◌%◌, ◌^◌, ◌<◌, ◌≤◌, min, ℤ, pos, negsuc, FitsSigned}
use Rattle.std.proofs.Common.{refl, sym, ap, ◌∙◌, ⊎_elim, arith, pow-add, mul_assoc, div-le_self}
use Rattle.std.proofs.Common.{lt_of_le_of_lt, lt_of_lt_of_le}
use Rattle.std.proofs.Math.Nat.{div-eq_of_lt, mod-eq_of_lt, mul-mod_left}
use Rattle.std.proofs.lemmas.Bool.{cases_lt}
use Rattle.std.specs.Int.{w128, int_div_euclid, int_shr}
use Rattle.smt_bits.specs.Operators.{bvlshr}
use lib.Pow.{pow_mono}
use lib.Signed.{mag, shr_z}

-- past all bits
pub shl_past : (n t : ℕ) → 128 ≤ t → 0 ≡ n * 2 ^ t % 2 ^ 128
shl_past n t past =
    let sum : t ≡ t - 128 + 128 = omega arith in
    let whole : n * 2 ^ t ≡ n * 2 ^ (t - 128) * 2 ^ 128 = ap (λ k. n * 2 ^ k) sum ∙ ap (λ x. n * x)
    (pow-add 2 (t - 128) 128) ∙ sym (mul_assoc n (2 ^ (t - 128)) (2 ^ 128)) in
    sym (ap (λ x. x % 2 ^ 128) whole ∙ mul-mod_left (n * 2 ^ (t - 128)) (2 ^ 128))

pub shr_past : (n t : ℕ) → n < 2 ^ 128 → 128 ≤ t → 0 ≡ n / 2 ^ t
shr_past n t fits past = sym (div-eq_of_lt (lt_of_lt_of_le fits (pow_mono past)))

pub lshr_is : (m s t : ℕ) → s < 2 ^ m → s / 2 ^ t % 2 ^ m ≡ bvlshr m s t
lshr_is m s t below = mod-eq_of_lt (lt_of_le_of_lt (div-le_self s (2 ^ t)) below)

-- the quotient by a positive number rounded down
floored : (z : ℤ) (d : ℕ) → int_div_euclid z (pos d) ≡ shr_z z d
floored (pos n) d = refl
floored (negsuc n) d = refl

ashr_past : (z : ℤ) (h t : ℕ) → mag z < 2 ^ h → h ≤ t → shr_z z (2 ^ t) ≡ shr_z z (2 ^ h)
ashr_past (pos n) h t below past =
    ap pos (div-eq_of_lt (lt_of_lt_of_le below (pow_mono past)) ∙ sym (div-eq_of_lt below))
ashr_past (negsuc n) h t below past =
    ap negsuc (div-eq_of_lt (lt_of_lt_of_le below (pow_mono past)) ∙ sym (div-eq_of_lt below))

pub ashr_capped : (z : ℤ) (t : ℕ) → FitsSigned w128 z → int_shr z (min t 127) ≡ int_div_euclid z (pos (2 ^ t))
ashr_capped z t fits = ⊎_elim early late (cases_lt t 127)
  where
    early : t < 127 → int_shr z (min t 127) ≡ int_div_euclid z (pos (2 ^ t))
    early less =
        let is : min t 127 ≡ t = omega arith in
        ap (int_shr z) is ∙ sym (floored z (2 ^ t))

    late : 127 ≤ t → int_shr z (min t 127) ≡ int_div_euclid z (pos (2 ^ t))
    late past =
        let is : min t 127 ≡ 127 = omega arith in
        ap (int_shr z) is ∙ sym (ashr_past z 127 t fits.sfits past) ∙ sym (floored z (2 ^ t))
