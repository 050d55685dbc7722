-- The signed reading, and the way back.
use Rattle.std.proofs.Common.{◌≡◌, ◌≢◌, ℕ, zero, suc, ◌+◌, ◌-◌, ◌*◌, ◌%◌, ◌^◌, ◌<◌, ◌≤◌, ℤ, pos, negsuc, ◌-ℤ◌}
use Rattle.std.proofs.Common.{neg_ℤ, cond, refl, sym, ap, subst, ◌∙◌, ⊎_elim, arith, le-leb, lt_of_lt_of_le}
use Rattle.std.proofs.lemmas.Bool.{cases_lt, lt-leb}
use Rattle.std.proofs.lemmas.Int.{ints}
use Rattle.std.proofs.lemmas.Nat.{mod_below, pow_pos}
use Rattle.std.proofs.Math.Nat.{mod-eq_of_lt, two-pow-succ}
use Rattle.std.proofs.Math.Pow.{pow_mono}
use Rattle.std.specs.Prelude.{unsigned_abs}
use Rattle.smt_bits.specs.BitVector.{modulo, signed}
use lib.Signed.{mag}

pub signed_low : (m s : ℕ) → 2 * s < 2 ^ m → signed m s ≡ pos s
signed_low m s low = ap (λ b. cond b (pos s -ℤ pos (2 ^ m)) (pos s)) (lt-leb (2 ^ m) (2 * s) low)

pub signed_high : (m s k : ℕ) → s + suc k ≡ 2 ^ m → 2 ^ m ≤ 2 * s → signed m s ≡ negsuc k
signed_high m s k sum high =
    let is : pos s -ℤ pos (2 ^ m) ≡ negsuc k = omega (arith, ints) in
    ap (λ b. cond b (pos s -ℤ pos (2 ^ m)) (pos s)) (le-leb (2 ^ m) (2 * s) high) ∙ is

pub modulo_signed : (m s : ℕ) → s < 2 ^ m → modulo m (signed m s) ≡ s
modulo_signed m s below =
    ⊎_elim
    (λ low. ap (modulo m) (signed_low m s low) ∙ mod-eq_of_lt below)
    (λ high.
    let k = 2 ^ m - suc s in
    let same : k % 2 ^ m ≡ k = mod-eq_of_lt (omega arith) in
    ap (modulo m) (signed_high m s k (omega arith) high) ∙ omega (arith, same))
    (cases_lt (2 * s) (2 ^ m))

pub signed_modulo : (h : ℕ) (z : ℤ) → mag z < 2 ^ h → signed (suc h) (modulo (suc h) z) ≡ z
signed_modulo h (pos n) fits =
    let double = two-pow-succ h in
    ap (signed (suc h)) (mod-eq_of_lt (omega arith)) ∙ signed_low (suc h) n (omega arith)
signed_modulo h (negsuc n) fits =
    let double = two-pow-succ h in
    let same : n % 2 ^ suc h ≡ n = mod-eq_of_lt (omega arith) in
    let is : modulo (suc h) (negsuc n) ≡ 2 ^ suc h - suc n = omega (arith, same) in
    ap (signed (suc h)) is ∙ signed_high (suc h) (2 ^ suc h - suc n) n (omega arith) (omega arith)

pub signed_within : (h s : ℕ) → s < 2 ^ suc h → mag (signed (suc h) s) < 2 ^ h
signed_within h s below =
    let double = two-pow-succ h in
    ⊎_elim
    (λ low. subst (λ z. mag z < 2 ^ h) (sym (signed_low (suc h) s low)) (omega arith))
    (λ high. subst (λ z. mag z < 2 ^ h) (sym (signed_high (suc h) s (2 ^ suc h - suc s) (omega arith) high))
    (omega arith))
    (cases_lt (2 * s) (2 ^ suc h))

pub signed_extended : (i m s : ℕ) → 1 ≤ m → s < 2 ^ m
    → signed (m + i) (modulo (m + i) (signed m s)) ≡ signed m s
signed_extended i zero s some below = absurd (omega arith)
signed_extended i (suc h) s some below =
    let sum : suc (h + i) ≡ suc h + i = omega arith in
    let fits = lt_of_lt_of_le (signed_within h s below) (pow_mono (omega arith)) in
    subst (λ w. signed w (modulo w (signed (suc h) s)) ≡ signed (suc h) s) sum
    (signed_modulo (h + i) (signed (suc h) s) fits)

pub modulo_below : (m : ℕ) (z : ℤ) → modulo m z < 2 ^ m
modulo_below m (pos n) = mod_below n (2 ^ m) (pow_pos m)
modulo_below m (negsuc n) = omega (arith, pow_pos m)

pub signed_nonzero : (m t : ℕ) → t < 2 ^ m → t ≢ 0 → signed m t ≢ pos 0
signed_nonzero m t below some none =
    some (sym (modulo_signed m t below) ∙ ap (modulo m) none ∙ mod-eq_of_lt (pow_pos m))

-- ---- absolute values

pub abs_most : (w : ℕ) (z : ℤ) → mag z < w → unsigned_abs z ≤ w
abs_most w (pos n) fits = omega arith
abs_most w (negsuc n) fits = omega arith

pub abs_neg : (z : ℤ) → unsigned_abs (neg_ℤ z) ≡ unsigned_abs z
abs_neg (pos zero) = refl
abs_neg (pos (suc n)) = refl
abs_neg (negsuc n) = refl
