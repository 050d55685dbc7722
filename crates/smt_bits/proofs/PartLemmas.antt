-- What the code of the parts computes.
use Rattle.std.proofs.Common.{◌≡◌, ℕ, add_comm, zero, suc, ◌+◌, ◌-◌, ◌*◌, ◌/◌, ◌%◌, ◌^◌, ◌<◌, ◌≤◌, sym, ap}
use Rattle.std.proofs.Common.{subst, ◌∙◌, arith, bit_or}
use Rattle.std.proofs.lemmas.Nat.{pow_pos, pow-add, mul-add-lt, or_shifted, shl_whole, or_mod, mod-pow-add}
use Rattle.std.proofs.lemmas.Nat.{mul-le, mod_below, mod_low, shl-shr, shr_high, shr_le, shr_below, shr_split}
use Rattle.std.proofs.Math.Nat.{mod-eq_of_lt, mod-one, div-eq_of_lt, div-one, mul-mod_left, zero-mul}
use Rattle.std.proofs.Math.Pow.{mod-mod-pow, shr_mod}
use Rattle.smt_bits.specs.Operators as meaning

-- s above t fits the width of both
pub concat_below : (m n s t : ℕ) → s < 2 ^ m → t < 2 ^ n → meaning.concat n s t < 2 ^ (m + n)
concat_below m n s t high low = omega (arith, mul-add-lt s (2 ^ n) t (2 ^ m) high low, pow-add 2 m n)

pub or_concat : (m n s t : ℕ) → s < 2 ^ m → t < 2 ^ n → m + n ≤ 128
    → bit_or (s * 2 ^ n % 2 ^ 128) t % 2 ^ (m + n) ≡ meaning.concat n s t
or_concat m n s t high low fits =
    ap (λ x. bit_or x t % 2 ^ (m + n)) (shl_whole s m n 128 high fits)
    ∙ ap (λ x. x % 2 ^ (m + n)) (or_shifted s n t low)
    ∙ mod-eq_of_lt (concat_below m n s t high low)

-- the longer number of the same bits
pub mod_wider : (m i s : ℕ) → s < 2 ^ m → s % 2 ^ (m + i) ≡ s
mod_wider m i s below =
    let one = pow_pos i in
    let grows : 2 ^ m ≤ 2 ^ (m + i) = rw (pow-add 2 m i) (omega (arith, mul-le (2 ^ m) 1 (2 ^ m) (2 ^ i))) in
    mod-eq_of_lt (omega arith)

-- by 0, by the whole width, and the other way
pub rotated_none : (m s : ℕ) → s < 2 ^ m → s ≡ meaning.rotated_left 0 m s
rotated_none m s below =
    let left : m ≡ m - 0 = omega arith in
    subst (λ w. s ≡ s % 2 ^ w * 2 ^ 0 + s / 2 ^ w) left
    (omega (arith, mod-eq_of_lt below, div-eq_of_lt below))

pub rotated_whole : (m s : ℕ) → s ≡ meaning.rotated_left m m s
rotated_whole m s =
    let left : 0 ≡ m - m = omega arith in
    let none : s % 1 * 2 ^ m + s / 1 ≡ 0 * 2 ^ m + s / 1 = ap (λ r. r * 2 ^ m + s / 1) (mod-one s) in
    subst (λ w. s ≡ s % 2 ^ w * 2 ^ m + s / 2 ^ w) left (omega (arith, none, div-one s))

pub rotated_back : (k m s : ℕ) → k ≤ m → meaning.rotated_left (m - k) m s ≡ meaning.rotated_right k m s
rotated_back k m s within =
    let left : m - (m - k) ≡ k = omega arith in ap (λ j. s % 2 ^ j * 2 ^ (m - k) + s / 2 ^ j) left

-- the bits that are shifted out at 128 stand above the width
shl_mod : (k m s : ℕ) → k ≤ m → s * 2 ^ k % 2 ^ m ≡ s % 2 ^ (m - k) * 2 ^ k
shl_mod k m s within =
    let parts : m - k + k ≡ m = omega arith in
    ap (λ w. s * 2 ^ k % 2 ^ w) (sym parts)
    ∙ mod-pow-add (s * 2 ^ k) (m - k) k
    ∙ ap (λ r. (s * 2 ^ k / 2 ^ k % 2 ^ (m - k)) * 2 ^ k + r) (mul-mod_left s (2 ^ k))
    ∙ ap (λ q. q % 2 ^ (m - k) * 2 ^ k + 0) (shl-shr s k)
    ∙ omega arith

pub or_rotated : (k m s : ℕ) → s < 2 ^ m → k ≤ m → m ≤ 128
    → bit_or (s * 2 ^ k % 2 ^ 128) (s / 2 ^ (m - k)) % 2 ^ m ≡ meaning.rotated_left k m s
or_rotated k m s below within most =
    let parts : k + (m - k) ≡ m = omega arith in
    let whole : 128 - m + m ≡ 128 = omega arith in
    let low : s / 2 ^ (m - k) < 2 ^ k = shr_below s k (m - k) (rw parts below) in
    let fits : s / 2 ^ (m - k) < 2 ^ m = omega (arith, shr_le s (m - k)) in
    or_mod (s * 2 ^ k % 2 ^ 128) (s / 2 ^ (m - k)) m
    ∙ ap (λ x. bit_or x (s / 2 ^ (m - k) % 2 ^ m))
    (ap (λ w. s * 2 ^ k % 2 ^ w % 2 ^ m) (sym whole) ∙ mod-mod-pow (s * 2 ^ k)
    (128 - m) m ∙ shl_mod k m s within)
    ∙ ap (λ x. bit_or (s % 2 ^ (m - k) * 2 ^ k) x) (mod-eq_of_lt fits)
    ∙ or_shifted (s % 2 ^ (m - k)) k (s / 2 ^ (m - k)) low

-- once, and once more
pub repeat_once : (m s : ℕ) → s ≡ meaning.repeat 1 m s
repeat_once m s = omega arith

pub repeat_more : (k m s : ℕ) → meaning.concat m (meaning.repeat k m s) s ≡ meaning.repeat (k + 1) m s
repeat_more k m s = let next : suc k ≡ k + 1 = omega arith in ap (λ j. meaning.repeat j m s) next

pub times_more : (k m : ℕ) → k * m + m ≡ (k + 1) * m
times_more k m = omega arith

pub times_within : (k i m : ℕ) → k < i → k * m + m ≤ i * m
times_within k i m less = omega (arith, mul-le (k + 1) m i m (omega arith) (omega arith), times_more k m)

pub ruleset parts = (
  or_concat,
  mod_wider,
  rotated_none,
  rotated_whole,
  rotated_back,
  or_rotated,
  repeat_once,
  repeat_more,
  times_more,
  times_within,
)

-- ---- laws

pub parts_whole : (m j s : ℕ) → 1 ≤ j → j < m → s < 2 ^ m
    → meaning.concat j (meaning.extract (m - 1) j s) (meaning.extract (j - 1) 0 s) ≡ s
parts_whole m j s some less below =
    let high : m - 1 - j + 1 ≡ m - j = omega arith in
    let low : j - 1 - 0 + 1 ≡ j = omega arith in
    let parts : m - j + j ≡ m = omega arith in
    ap (λ w. s / 2 ^ j % 2 ^ w * 2 ^ j + s / 2 ^ 0 % 2 ^ (j - 1 - 0 + 1)) high
    ∙ ap (λ w. s / 2 ^ j % 2 ^ (m - j) * 2 ^ j + s / 2 ^ 0 % 2 ^ w) low
    ∙ ap (λ q. s / 2 ^ j % 2 ^ (m - j) * 2 ^ j + q % 2 ^ j) (div-one s)
    ∙ ap (λ q. q * 2 ^ j + s % 2 ^ j) (shr_mod (m - j) j (rw parts below))
    ∙ shr_split s j

-- two parts in the other order, and back
turned_back : (j k s : ℕ) → s < 2 ^ (j + k) → let turned = s % 2 ^ j * 2 ^ k + s / 2 ^ j
    in turned % 2 ^ k * 2 ^ j + turned / 2 ^ k ≡ s
turned_back j k s below =
    let low : s / 2 ^ j < 2 ^ k = shr_below s k j (rw (add_comm k j) below) in
    ap (λ q. q * 2 ^ j + (s % 2 ^ j * 2 ^ k + s / 2 ^ j) / 2 ^ k) (mod_low (s % 2 ^ j) k (s / 2 ^ j) low)
    ∙ ap (λ q. s / 2 ^ j * 2 ^ j + q) (shr_high (s % 2 ^ j) k (s / 2 ^ j) low)
    ∙ shr_split s j

turned_below : (j k s : ℕ) → s < 2 ^ (j + k) → s % 2 ^ j * 2 ^ k + s / 2 ^ j < 2 ^ (j + k)
turned_below j k s below =
    concat_below j k (s % 2 ^ j) (s / 2 ^ j) (mod_below s (2 ^ j) (pow_pos j))
    (shr_below s k j (rw (add_comm k j) below))

pub left_back : (i m s : ℕ) → 1 ≤ m → s < 2 ^ m → meaning.rotate_right i m (meaning.rotate_left i m s) ≡ s
left_back i m s some below =
    let less = mod_below i m some in
    let parts : m - i % m + i % m ≡ m = omega arith in
    turned_back (m - i % m) (i % m) s (rw parts below)

pub right_back : (i m s : ℕ) → 1 ≤ m → s < 2 ^ m → meaning.rotate_left i m (meaning.rotate_right i m s) ≡ s
right_back i m s some below =
    let less = mod_below i m some in
    let parts : i % m + (m - i % m) ≡ m = omega arith in
    turned_back (i % m) (m - i % m) s (rw parts below)

pub left_below : (i m s : ℕ) → 1 ≤ m → s < 2 ^ m → meaning.rotate_left i m s < 2 ^ m
left_below i m s some below =
    let less = mod_below i m some in
    let parts : m - i % m + i % m ≡ m = omega arith in
    subst (λ w. s % 2 ^ (m - i % m) * 2 ^ (i % m) + s / 2 ^ (m - i % m) < 2 ^ w) parts
    (turned_below (m - i % m) (i % m) s (rw parts below))

pub right_below : (i m s : ℕ) → 1 ≤ m → s < 2 ^ m → meaning.rotate_right i m s < 2 ^ m
right_below i m s some below =
    let less = mod_below i m some in
    let parts : i % m + (m - i % m) ≡ m = omega arith in
    subst (λ w. s % 2 ^ (i % m) * 2 ^ (m - i % m) + s / 2 ^ (i % m) < 2 ^ w) parts
    (turned_below (i % m) (m - i % m) s (rw parts below))

pub extract_below : (i j s : ℕ) → meaning.extract i j s < 2 ^ (i - j + 1)
extract_below i j s = mod_below (s / 2 ^ j) (2 ^ (i - j + 1)) (pow_pos (i - j + 1))

pub repeat_below : (i m s : ℕ) → s < 2 ^ m → meaning.repeat i m s < 2 ^ (i * m)
repeat_below zero m s below = subst (λ w. 0 < 2 ^ w) (sym (zero-mul m)) (pow_pos 0)
repeat_below (suc i) m s below =
    let next : i * m + m ≡ suc i * m = omega arith in
    subst (λ w. meaning.repeat (suc i) m s < 2 ^ w) next
    (concat_below (i * m) m (meaning.repeat i m s) s (repeat_below i m s below) below)
