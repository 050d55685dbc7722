-- Shifts and parts, bit by bit.
use Rattle.std.proofs.Common.{◌≡◌, ℕ, zero, suc, ◌+◌, ◌-◌, ◌*◌, ◌/◌, ◌%◌, ◌^◌, ◌<◌, ◌≤◌, pos, negsuc, Bool}
use Rattle.std.proofs.Common.{true, false, cond, Some, None, sym, ap, ◌∙◌, ⊎_elim, arith, add-zero, add_comm}
use Rattle.std.proofs.Common.{lt_of_le_of_lt}
use Rattle.std.proofs.lemmas.Bool.{cases_lt}
use Rattle.std.proofs.lemmas.Nat.{mod_below, pow_pos, shr_below, shr_le, shr_split}
use Rattle.std.proofs.lemmas.Nat.Bits.{bit_at-lt, bit_at-zero, bit_at_above, bit_at_cat_high, bit_at_cat_low}
use Rattle.std.proofs.lemmas.Nat.Bits.{bit_at_ones, same_from_bits_below}
use Rattle.std.proofs.Math.Nat.{add-mod-mod, add-mod_right, mod-eq_of_lt, two-pow-succ}
use Rattle.std.proofs.Math.Pow.{pow_mono}
use Rattle.std.specs.Int.{bit_at, int_div_euclid}
use Rattle.std.specs.Prelude.{nat_le}
use Rattle.smt_bits.proofs.BitwiseLemmas.{bits_same, complement_is}
use Rattle.smt_bits.proofs.PartLemmas.{mod_wider}
use Rattle.smt_bits.proofs.SignedReadingLemmas.{modulo_below, signed_high, signed_low}
use Rattle.smt_bits.specs.BitVector.{BitVector, IsVector, modulo, signed, vector}
use Rattle.smt_bits.specs.Operators.{bvashr, bvlshr, bvnot, bvshl, concat, extract, repeat, rotate_left}
use Rattle.smt_bits.specs.Operators.{rotate_right, rotated_left, rotated_right, sign_extend}
use Rattle.smt_bits.specs.Parts.{zero_extension}

-- ---- the lowest bits, and those from a place on

at_lowest : (n w k : ℕ) → k < w → bit_at (n % 2 ^ w) k ≡ bit_at n k
at_lowest n w k within =
    sym (bit_at_cat_low (n / 2 ^ w) w (n % 2 ^ w) k within) ∙ ap (λ x. bit_at x k) (shr_split n w)

at_from : (n j k : ℕ) → bit_at (n / 2 ^ j) k ≡ bit_at n (j + k)
at_from n j k =
    let place : k ≡ j + k - j = omega arith in
    ap (bit_at (n / 2 ^ j)) place ∙ sym
    (bit_at_cat_high (n / 2 ^ j) j (n % 2 ^ j) (j + k) (mod_below n (2 ^ j) (pow_pos j)) (omega arith)) ∙
    ap (λ x. bit_at x (j + k)) (shr_split n j)

-- ---- parts

pub concat_low : (n s t k : ℕ) → k < n → bit_at (concat n s t) k ≡ bit_at t k
concat_low n s t k within = bit_at_cat_low s n t k within

pub concat_high : (n s t k : ℕ) → t < 2 ^ n → bit_at (concat n s t) (n + k) ≡ bit_at s k
concat_high n s t k below =
    let place : n + k - n ≡ k = omega arith in
    bit_at_cat_high s n t (n + k) below (omega arith) ∙ ap (bit_at s) place

pub extract_at : (i j s k : ℕ) → k ≤ i - j → bit_at (extract i j s) k ≡ bit_at s (j + k)
extract_at i j s k within = at_lowest (s / 2 ^ j) (i - j + 1) k (omega arith) ∙ at_from s j k

-- a place behind one whole vector
place_more : (m k : ℕ) → m ≤ k → (k - m) % m ≡ k % m
place_more m k past =
    let sum : k - m + m ≡ k = omega arith in
    sym (add-mod_right (k - m) m) ∙ ap (λ x. x % m) sum

pub repeat_at : (i m s k : ℕ) → s < 2 ^ m → k < i * m → bit_at (repeat i m s) k ≡ bit_at s (k % m)
repeat_at zero m s k below within = absurd (omega arith)
repeat_at (suc i) m s k below within =
    ⊎_elim
    (λ low. concat_low m (repeat i m s) s k low ∙ ap (bit_at s) (sym (mod-eq_of_lt low)))
    (λ past.
    bit_at_cat_high (repeat i m s) m s k below past ∙ repeat_at i m s (k - m) below (omega arith) ∙ ap
    (bit_at s) (place_more m k past))
    (cases_lt k m)

-- of rotations by less than the width
rotated_at : (m r s k : ℕ) → r < m → k < m → s < 2 ^ m
    → bit_at (rotated_left r m s) ((k + r) % m) ≡ bit_at s k
rotated_at m r s k less within below = ⊎_elim up around (cases_lt (k + r) m)
  where
    parts : r + (m - r) ≡ m
    parts = omega arith

    low : s / 2 ^ (m - r) < 2 ^ r
    low = shr_below s r (m - r) (rw parts below)

    up : k + r < m → bit_at (rotated_left r m s) ((k + r) % m) ≡ bit_at s k
    up h =
        let place : (k + r) % m ≡ r + k = mod-eq_of_lt h ∙ add_comm k r in
        ap (bit_at (rotated_left r m s)) place ∙ concat_high r (s % 2 ^ (m - r))
        (s / 2 ^ (m - r)) k low ∙ at_lowest s (m - r) k (omega arith)

    around : m ≤ k + r → bit_at (rotated_left r m s) ((k + r) % m) ≡ bit_at s k
    around h =
        let j = k + r - m in
        let sum : k + r ≡ j + m = omega arith in
        let place : (k + r) % m ≡ j = ap (λ x. x % m) sum ∙ add-mod_right j m ∙ mod-eq_of_lt (omega arith) in
        let back : m - r + j ≡ k = omega arith in
        ap (bit_at (rotated_left r m s)) place ∙ concat_low r (s % 2 ^ (m - r)) (s / 2 ^ (m - r)) j
        (omega arith) ∙ at_from s (m - r) j ∙ ap (bit_at s) back

pub rotate_left_at : (i m s k : ℕ) → s < 2 ^ m → k < m → bit_at (rotate_left i m s) ((k + i) % m) ≡ bit_at s k
rotate_left_at i m s k below within =
    ap (bit_at (rotate_left i m s)) (sym (add-mod-mod k i m)) ∙ rotated_at m (i % m) s k
    (mod_below i m (omega arith)) within below

rotated_back_at : (m r s k : ℕ) → r < m → k < m → s < 2 ^ m
    → bit_at (rotated_right r m s) k ≡ bit_at s ((k + r) % m)
rotated_back_at m r s k less within below = ⊎_elim down around (cases_lt (k + r) m)
  where
    parts : m - r + r ≡ m
    parts = omega arith

    low : s / 2 ^ r < 2 ^ (m - r)
    low = shr_below s (m - r) r (rw parts below)

    down : k + r < m → bit_at (rotated_right r m s) k ≡ bit_at s ((k + r) % m)
    down h =
        let place : r + k ≡ (k + r) % m = add_comm r k ∙ sym (mod-eq_of_lt h) in
        concat_low (m - r) (s % 2 ^ r) (s / 2 ^ r) k (omega arith) ∙ at_from s r k ∙ ap (bit_at s) place

    around : m ≤ k + r → bit_at (rotated_right r m s) k ≡ bit_at s ((k + r) % m)
    around h =
        let j = k + r - m in
        let sum : k + r ≡ j + m = omega arith in
        let place : (k + r) % m ≡ j = ap (λ x. x % m) sum ∙ add-mod_right j m ∙ mod-eq_of_lt (omega arith) in
        let up : k ≡ m - r + j = omega arith in
        ap (bit_at (rotated_right r m s)) up ∙ concat_high (m - r) (s % 2 ^ r)
        (s / 2 ^ r) j low ∙ at_lowest s r j (omega arith) ∙ ap (bit_at s) (sym place)

pub rotate_right_at : (i m s k : ℕ) → s < 2 ^ m → k < m
    → bit_at (rotate_right i m s) k ≡ bit_at s ((k + i) % m)
rotate_right_at i m s k below within =
    rotated_back_at m (i % m) s k (mod_below i m (omega arith)) within below ∙ ap (bit_at s)
    (add-mod-mod k i m)

-- ---- shifts

pub shl_at : (m s t k : ℕ) → t + k < m → bit_at (bvshl m s t) (t + k) ≡ bit_at s k
shl_at m s t k within = at_lowest (s * 2 ^ t) m (t + k) within ∙ ap (λ x. bit_at x (t + k))
    (sym (add-zero (s * 2 ^ t))) ∙ concat_high t s 0 k (pow_pos t)

pub shl_zeros : (m s t k : ℕ) → k < t → bit_at (bvshl m s t) k ≡ 0
shl_zeros m s t k low =
    ⊎_elim
    (λ within. at_lowest (s * 2 ^ t) m k within ∙ ap (λ x. bit_at x k)
    (sym (add-zero (s * 2 ^ t))) ∙ concat_low t s 0 k low ∙ bit_at-zero k)
    (λ past. bit_at_above (bvshl m s t) m k (mod_below (s * 2 ^ t) (2 ^ m) (pow_pos m)) past)
    (cases_lt k m)

pub lshr_at : (m s t k : ℕ) → bit_at (bvlshr m s t) k ≡ bit_at s (t + k)
lshr_at m s t k = at_from s t k

pub lshr_zeros : (m s t k : ℕ) → s < 2 ^ m → m ≤ t + k → bit_at (bvlshr m s t) k ≡ 0
lshr_zeros m s t k below past = at_from s t k ∙ bit_at_above s m (t + k) below past

-- ---- copies of the sign

-- all bits turned
complement_at : (m n k : ℕ) → n < 2 ^ m → k < m → bit_at (2 ^ m - suc n) k ≡ 1 - bit_at n k
complement_at m n k below within =
    let is : 2 ^ m - suc n ≡ bvnot m n = omega (arith, complement_is m n below) in
    ap (λ x. bit_at x k) is ∙ bits_same (λ i. 1 - bit_at n i) m k (λ i. omega arith) within

-- turned twice
turned : (b : ℕ) → b < 2 → 1 - (1 - b) ≡ b
turned b few = omega arith

-- the highest bit says whether the number is negative
sign_low : (h s : ℕ) → 2 * s < 2 ^ suc h → bit_at s h ≡ 0
sign_low h s low = bit_at_above s h h (omega (arith, two-pow-succ h)) (omega arith)

sign_high : (h s : ℕ) → s < 2 ^ suc h → 2 ^ suc h ≤ 2 * s → bit_at s h ≡ 1
sign_high h s below high =
    let double = two-pow-succ h in
    let is : s ≡ 1 * 2 ^ h + (s - 2 ^ h) = omega arith in
    let none : h - h ≡ 0 = omega arith in
    ap (λ x. bit_at x h) is ∙ bit_at_cat_high 1 h (s - 2 ^ h) h (omega arith) (omega arith) ∙ ap
    (bit_at 1) none

ashr_low : (m s t : ℕ) → s < 2 ^ m → 2 * s < 2 ^ m → bvashr m s t ≡ s / 2 ^ t
ashr_low m s t below low =
    ap (λ z. modulo m (int_div_euclid z (pos (2 ^ t)))) (signed_low m s low) ∙ mod-eq_of_lt
    (lt_of_le_of_lt (shr_le s t) below)

ashr_high : (m s t : ℕ) → s < 2 ^ m → 2 ^ m ≤ 2 * s → bvashr m s t ≡ 2 ^ m - suc ((2 ^ m - suc s) / 2 ^ t)
ashr_high m s t below high =
    let k = 2 ^ m - suc s in
    let fits : k / 2 ^ t < 2 ^ m = lt_of_le_of_lt (shr_le k t) (omega arith) in
    let same : k / 2 ^ t % 2 ^ m ≡ k / 2 ^ t = mod-eq_of_lt fits in
    let is : modulo m (negsuc (k / 2 ^ t)) ≡ 2 ^ m - suc (k / 2 ^ t) = omega (arith, same) in
    ap (λ z. modulo m (int_div_euclid z (pos (2 ^ t)))) (signed_high m s k (omega arith) high) ∙ is

-- of a number below 0 shifted: the bits of its complement, turned
ashr_turned : (m s t k : ℕ) → s < 2 ^ m → 2 ^ m ≤ 2 * s → k < m
    → bit_at (bvashr m s t) k ≡ 1 - bit_at (2 ^ m - suc s) (t + k)
ashr_turned m s t k below high within =
    let c = 2 ^ m - suc s in
    ap (λ x. bit_at x k) (ashr_high m s t below high)
    ∙ complement_at m (c / 2 ^ t) k (lt_of_le_of_lt (shr_le c t) (omega arith)) within ∙ ap (λ b. 1 - b)
    (at_from c t k)

pub ashr_at : (m s t k : ℕ) → s < 2 ^ m → t + k < m → bit_at (bvashr m s t) k ≡ bit_at s (t + k)
ashr_at m s t k below within =
    ⊎_elim
    (λ low. ap (λ x. bit_at x k) (ashr_low m s t below low) ∙ at_from s t k)
    (λ high. ashr_turned m s t k below high (omega arith) ∙ ap (λ b. 1 - b)
    (complement_at m s (t + k) below within) ∙ turned (bit_at s (t + k)) (bit_at-lt s (t + k)))
    (cases_lt (2 * s) (2 ^ m))

pub ashr_sign : (m s t k : ℕ) → s < 2 ^ m → k < m → m ≤ t + k → bit_at (bvashr m s t) k ≡ bit_at s (m - 1)
ashr_sign zero s t k below within past = absurd (omega arith)
ashr_sign (suc h) s t k below within past =
    let highest : h ≡ suc h - 1 = omega arith in
    ⊎_elim
    (λ low. ap (λ x. bit_at x k) (ashr_low (suc h) s t below low) ∙ at_from s t k ∙ bit_at_above s (suc h)
    (t + k) below past ∙ sym (sign_low h s low))
    (λ high. ashr_turned (suc h) s t k below high within
    ∙ ap (λ b. 1 - b) (bit_at_above (2 ^ suc h - suc s) (suc h) (t + k) (omega arith) past) ∙ sym
    (sign_high h s below high))
    (cases_lt (2 * s) (2 ^ suc h))
    ∙ ap (bit_at s) highest

-- by the whole width or more
ashr_past : (m s t b : ℕ) → s < 2 ^ m → m ≤ t → bit_at s (m - 1) ≡ b → (n : ℕ) → n < 2 ^ m
    → ((k : ℕ) → k < m → bit_at n k ≡ b) → bvashr m s t ≡ n
ashr_past m s t b below past sign n fits each =
    same_from_bits_below m (bvashr m s t) n (modulo_below m (int_div_euclid (signed m s) (pos (2 ^ t)))) fits
    (λ k within. ashr_sign m s t k below within (omega arith) ∙ sign ∙ sym (each k within))

pub ashr_zeros : (m s t : ℕ) → s < 2 ^ m → m ≤ t → bit_at s (m - 1) ≡ 0 → bvashr m s t ≡ 0
ashr_zeros m s t below past sign = ashr_past m s t 0 below past sign 0 (pow_pos m) (λ k within. bit_at-zero k)

pub ashr_ones : (m s t : ℕ) → s < 2 ^ m → m ≤ t → bit_at s (m - 1) ≡ 1 → bvashr m s t ≡ 2 ^ m - 1
ashr_ones m s t below past sign =
    ashr_past m s t 1 below past sign (2 ^ m - 1) (omega (arith, pow_pos m)) (bit_at_ones m)

-- ---- extensions

extend_low : (i m s : ℕ) → s < 2 ^ m → 2 * s < 2 ^ m → sign_extend i m s ≡ s
extend_low i m s below low = ap (modulo (m + i)) (signed_low m s low) ∙ mod_wider m i s below

extend_high : (i m s : ℕ) → s < 2 ^ m → 2 ^ m ≤ 2 * s → sign_extend i m s ≡ 2 ^ (m + i) - suc (2 ^ m - suc s)
extend_high i m s below high =
    let k = 2 ^ m - suc s in
    let same : k % 2 ^ (m + i) ≡ k = mod_wider m i k (omega arith) in
    let is : modulo (m + i) (negsuc k) ≡ 2 ^ (m + i) - suc k = omega (arith, same) in
    ap (modulo (m + i)) (signed_high m s k (omega arith) high) ∙ is

extend_turned : (i m s k : ℕ) → s < 2 ^ m → 2 ^ m ≤ 2 * s → k < m + i
    → bit_at (sign_extend i m s) k ≡ 1 - bit_at (2 ^ m - suc s) k
extend_turned i m s k below high within =
    let wider : 2 ^ m ≤ 2 ^ (m + i) = pow_mono (omega arith) in
    ap (λ x. bit_at x k) (extend_high i m s below high) ∙ complement_at (m + i) (2 ^ m - suc s) k
    (omega arith) within

pub sign_extend_at : (i m s k : ℕ) → s < 2 ^ m → k < m → bit_at (sign_extend i m s) k ≡ bit_at s k
sign_extend_at i m s k below within =
    ⊎_elim
    (λ low. ap (λ x. bit_at x k) (extend_low i m s below low))
    (λ high. extend_turned i m s k below high (omega arith) ∙ ap (λ b. 1 - b)
    (complement_at m s k below within) ∙ turned (bit_at s k) (bit_at-lt s k))
    (cases_lt (2 * s) (2 ^ m))

pub sign_extend_sign : (i m s k : ℕ) → s < 2 ^ m → m ≤ k → k < m + i
    → bit_at (sign_extend i m s) k ≡ bit_at s (m - 1)
sign_extend_sign i zero s k below past within =
    ap (λ x. bit_at x k) (extend_low i 0 s below (omega arith)) ∙ bit_at_above s 0 k below past ∙ sym
    (bit_at_above s 0 0 below (omega arith))
sign_extend_sign i (suc h) s k below past within =
    let highest : h ≡ suc h - 1 = omega arith in
    ⊎_elim
    (λ low. ap (λ x. bit_at x k) (extend_low i (suc h) s below low) ∙ bit_at_above s
    (suc h) k below past ∙ sym (sign_low h s low))
    (λ high. extend_turned i (suc h) s k below high within
    ∙ ap (λ b. 1 - b) (bit_at_above (2 ^ suc h - suc s) (suc h) k (omega arith) past) ∙ sym
    (sign_high h s below high))
    (cases_lt (2 * s) (2 ^ suc h))
    ∙ ap (bit_at s) highest

-- the bits of a vector that is extended with zeros
zero_extended : (i : ℕ) (v w : BitVector) → zero_extension i v ≡ Some w
    → (w.width ≡ v.width + i) × (w.number ≡ v.number)
zero_extended i v w h = by (nat_le (v.width + i) 128) h
  where
    by : (b : Bool) → cond b (Some (vector (v.width + i) v.number)) None ≡ Some w
        → (w.width ≡ v.width + i) × (w.number ≡ v.number)
    by true e = let is : vector (v.width + i) v.number ≡ w = cc
        in (sym (ap (λ (x : BitVector). x.width) is), sym (ap (λ (x : BitVector). x.number) is))
    by false e = cc

pub zero_extend_at : (i : ℕ) (v w : BitVector) (k : ℕ) → zero_extension i v ≡ Some w
    → bit_at w.number k ≡ bit_at v.number k
zero_extend_at i v w k h = ap (λ n. bit_at n k) (zero_extended i v w h).1

pub zero_extend_zeros : (i : ℕ) (v w : BitVector) (k : ℕ) → IsVector v → zero_extension i v ≡ Some w
    → v.width ≤ k → bit_at w.number k ≡ 0
zero_extend_zeros i v w k is h past = zero_extend_at i v w k h ∙ bit_at_above v.number v.width k is.1 past
