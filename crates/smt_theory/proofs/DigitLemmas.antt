-- Digits are read from the left.
use Rattle.std.proofs.Common.{◌≡◌, ◌==◌, not, ℕ, ◌+◌, ◌*◌, ◌^◌, ◌<◌, ◌≤◌, Bool, true, false, cond, List, [], ◌∷◌, Some}
use Rattle.std.proofs.Common.{None, length, drop, get_or, nat_lt, refl, suc, sym, ap, ◌∙◌, add-one, drop-cons}
use Rattle.std.proofs.Common.{arith, rules}
use Rattle.std.proofs.Math.Nat.{mul-le-mul_left, pow-le-pow_right}
use Rattle.std.proofs.lemmas.Bool.Decides.{nat_tests}
use Rattle.std.specs.Char.{digit_value}
use Rattle.std.specs.Str.Parse.{digits_value_after}
use Rattle.std.specs.List.{filter}
use Rattle.smt_theory.specs.Literals.{is_figure}
use Rattle.smt_theory.specs.Numbers.{below_word}

-- one digit more
pub digits_at : (base value : ℕ) (bytes : List ℕ) (i : ℕ) → i < length bytes
    → digits_value_after base value (drop i bytes)
    ≡ digits_value_after base (value * base + digit_value (get_or bytes i 0)) (drop (i + 1) bytes)
digits_at base value bytes i below = ap (digits_value_after base value)
    (drop-cons bytes i 0 below ∙ ap (λ n. get_or bytes i 0 ∷ drop n bytes) (sym (add-one i)))

-- what has been read stays below the whole
pub digits_value_after-ge : (base n : ℕ) (bytes : List ℕ) → 0 < base → n ≤ digits_value_after base n bytes
digits_value_after-ge base n [] h = omega arith
digits_value_after-ge base n (c ∷ bytes) h =
    let rest = digits_value_after-ge base (n * base + digit_value c) bytes h in
    let one : n * 1 ≤ n * base = mul-le-mul_left n h in
    omega arith

below_word-large : (n : ℕ) → 2 ^ 128 ≤ n → below_word n ≡ None
below_word-large n h = let e : nat_lt n (2 ^ 128) ≡ false = search rules in rw e refl

pub large_below_word : (n : ℕ) → below_word n ≡ None → 2 ^ 128 ≤ n
large_below_word n h = by (nat_lt n (2 ^ 128)) (λ e. search rules) h
  where
    by : (b : Bool) → (b ≡ false → 2 ^ 128 ≤ n) → cond b (Some n) None ≡ None → 2 ^ 128 ≤ n
    by true f h = cc
    by false f h = f refl

-- where a beginning is too large, so is the whole
pub too_large : (m n : ℕ) → below_word m ≡ None → m ≤ n → below_word n ≡ None
too_large m n h le = let big = large_below_word m h in below_word-large n (omega arith)

-- ---- a few digits in a base of at most 16

digit_value-le : (c : ℕ) → digit_value c ≤ 36
digit_value-le c = grind (arith, nat_tests)

-- one more leaves room
pub small_on : (base value c i : ℕ) → base ≤ 16 → value + 3 ≤ 3 * 16 ^ i
    → value * base + digit_value c + 3 ≤ 3 * 16 ^ (i + 1)
small_on base value c i few small =
    let most : value * base ≤ value * 16 = mul-le-mul_left value few in
    let digit = digit_value-le c in
    let power : 16 ^ (i + 1) ≡ 16 ^ suc i = ap (λ n. 16 ^ n) (add-one i) in
    let step : 16 ^ suc i ≡ 16 ^ i * 16 = omega arith in
    omega (arith, most, digit, power, step, small)

pub small_fits : (n i : ℕ) → n + 3 ≤ 3 * 16 ^ i → i ≤ 15 → n < 2 ^ 64
small_fits n i small few =
    let most : 16 ^ i ≤ 16 ^ 15 = pow-le-pow_right (omega arith) few in
    omega (arith, most, small)

-- ---- a decimal

-- where a byte is the point, it is left out
pub point_at : (value : ℕ) (bytes : List ℕ) (i : ℕ) → i < length bytes → (get_or bytes i 0 == 46) ≡ true
    → digits_value_after 10 value (filter is_figure (drop i bytes))
    ≡ digits_value_after 10 value (filter is_figure (drop (i + 1) bytes))
point_at value bytes i below point =
    ap (λ xs. digits_value_after 10 value (filter is_figure xs))
    (drop-cons bytes i 0 below ∙ ap (λ n. get_or bytes i 0 ∷ drop n bytes) (sym (add-one i)))
    ∙ ap (λ b. digits_value_after 10 value (cond (not b) (get_or bytes i 0 ∷ filter is_figure (drop (i + 1) bytes))
    (filter is_figure (drop (i + 1) bytes)))) point

-- else it is a digit more
pub figure_at : (value : ℕ) (bytes : List ℕ) (i : ℕ) → i < length bytes → (get_or bytes i 0 == 46) ≡ false
    → digits_value_after 10 value (filter is_figure (drop i bytes))
    ≡ digits_value_after 10 (value * 10 + digit_value (get_or bytes i 0)) (filter is_figure (drop (i + 1) bytes))
figure_at value bytes i below figure =
    ap (λ xs. digits_value_after 10 value (filter is_figure xs))
    (drop-cons bytes i 0 below ∙ ap (λ n. get_or bytes i 0 ∷ drop n bytes) (sym (add-one i)))
    ∙ ap (λ b. digits_value_after 10 value (cond (not b) (get_or bytes i 0 ∷ filter is_figure (drop (i + 1) bytes))
    (filter is_figure (drop (i + 1) bytes)))) figure
