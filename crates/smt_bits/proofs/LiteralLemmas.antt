-- The digits of a constant, read modulo a power of two.
use Rattle.std.proofs.Common.{◌≡◌, ℕ, zero, suc, ◌+◌, ◌-◌, ◌*◌, ◌%◌, ◌^◌, ◌<◌, ◌≤◌, Bool, true, false, cond}
use Rattle.std.proofs.Common.{List, [], ◌∷◌, Some, None, length, drop, get_or, refl, sym, ap, ◌∙◌, subst}
use Rattle.std.proofs.Common.{add-one, drop-cons, arith, rules}
use Rattle.std.proofs.Math.Nat.{mod-add-mod, mod-eq_of_lt, mod-mod, mul-suc, pow-suc, pow-zero}
use Rattle.std.proofs.lemmas.Int.Digits.{digits_value-lt}
use Rattle.std.proofs.Math.Pow.{mod-mod-pow}
use Rattle.std.proofs.lemmas.Nat.{mul-mod_first, pow-add}
use Rattle.std.specs.Char.{digit_value}
use Rattle.std.proofs.Math.Nat.{mul-le-mul_right}
use Rattle.std.specs.Prelude.{is_some, nat_le, ◌&&◌}
use Rattle.std.specs.Str.Parse.{AllDigits, digits_value, digits_value_after}
use Rattle.smt_theory.specs.Width.{width_of}
use Rattle.smt_bits.specs.BitVector.{vector}
use Rattle.smt_bits.specs.Literals.{constant, known_constant}

-- one digit more
same_digit : (base a b c k : ℕ) → a % k ≡ b % k → (a * base + c) % k ≡ (b * base + c) % k
same_digit base a b c k h =
    let left : (n : ℕ) → (n * base + c) % k ≡ ((n % k * base) % k + c) % k =
    (λ n. sym (ap (λ x. (x + c) % k) (mul-mod_first n base k) ∙ mod-add-mod (n * base) k c)) in
    left a ∙ ap (λ n. ((n * base) % k + c) % k) h ∙ sym (left b)

-- the digits behind numbers that are the same modulo k
same_after : (base a b k : ℕ) (digits : List ℕ) → a % k ≡ b % k
    → digits_value_after base a digits % k ≡ digits_value_after base b digits % k
same_after base a b k [] h = h
same_after base a b k (c ∷ digits) h = same_after base (a * base + digit_value c)
    (b * base + digit_value c) k digits (same_digit base a b (digit_value c) k h)

pub digit_read : (base value next k : ℕ) (digits : List ℕ) (i : ℕ) → i < length digits
    → next ≡ (value * base + digit_value (get_or digits i 0)) % k
    → digits_value_after base value (drop i digits) % k
    ≡ digits_value_after base next (drop (i + 1) digits) % k
digit_read base value next k digits i below e =
    ap (λ ds. digits_value_after base value ds % k)
    (drop-cons digits i 0 below ∙ ap (λ n. get_or digits i 0 ∷ drop n digits) (sym (add-one i)))
    ∙ same_after base (value * base + digit_value (get_or digits i 0)) next k (drop (i + 1) digits)
    (sym (ap (λ n. n % k) e ∙ mod-mod (value * base + digit_value (get_or digits i 0)) k))

pub shorter : (n m : ℕ) → m ≤ 128 → n % 2 ^ 128 % 2 ^ m ≡ n % 2 ^ m
shorter n m h = let e : 128 - m + m ≡ 128 = omega arith
    in ap (λ k. n % 2 ^ k % 2 ^ m) (sym e) ∙ mod-mod-pow n (128 - m) m

-- ---- the width of a constant

pub too_wide : (bits count : ℕ) (digits : List ℕ) (base : ℕ) → 1 ≤ bits → 128 < count → length digits ≡ count
    → known_constant base bits digits ≡ None
too_wide bits count digits base some many same =
    let least : 1 * length digits ≤ bits * length digits = mul-le-mul_right (length digits) some in
    let over : nat_le (bits * length digits) 128 ≡ false = (let e = same in search rules) in
    by (nat_le 1 (bits * length digits)) (nat_le (bits * length digits) 128) over
  where
    by : (p q : Bool) → q ≡ false
        → cond (is_some (cond (p && q) (Some (bits * length digits)) None))
        (Some (constant base bits digits)) None ≡ None
    by true q h = rw h refl
    by false q h = refl

pub of_width : (bits : ℕ) (digits : List ℕ) (base w v : ℕ) → width_of (bits * length digits) ≡ Some w
    → v ≡ digits_value base digits % 2 ^ 128
    → Some (vector w (v % 2 ^ w)) ≡ known_constant base bits digits
of_width bits digits base w v h e =
    by (nat_le 1 (bits * length digits)) (nat_le (bits * length digits) 128) (λ t. search rules) h
  where
    by : (p q : Bool) → (q ≡ true → bits * length digits ≤ 128)
        → cond (p && q) (Some (bits * length digits)) None ≡ Some w
        → Some (vector w (v % 2 ^ w))
        ≡ cond (is_some (cond (p && q) (Some (bits * length digits)) None))
        (Some (constant base bits digits)) None
    by true true within h =
        let same : w ≡ bits * length digits = cc in
        ap (λ n. Some (vector w (n % 2 ^ w))) e ∙ ap
        (λ m. Some (vector m (digits_value base digits % 2 ^ 128 % 2 ^ m))) same
        ∙ ap (λ n. Some (vector (bits * length digits) n))
        (shorter (digits_value base digits) (bits * length digits) (within refl))
    by true false within h = cc
    by false q within h = cc

-- ---- the number of a constant

power : (bits n : ℕ) → (2 ^ bits) ^ n ≡ 2 ^ (bits * n)
power bits zero = pow-zero (2 ^ bits) ∙ sym (pow-zero 2) ∙ ap (λ k. 2 ^ k) (zero_is bits)
  where
    zero_is : (bits : ℕ) → 0 ≡ bits * 0
    zero_is bits = omega arith
power bits (suc n) =
    pow-suc (2 ^ bits) n ∙ ap (λ k. k * 2 ^ bits) (power bits n) ∙ sym (pow-add 2 (bits * n) bits) ∙ ap
    (λ k. 2 ^ k) (next bits n)
  where
    next : (bits n : ℕ) → bits * n + bits ≡ bits * suc n
    next bits n = sym (mul-suc bits n)

-- digits in base 2 ^ bits spell a number of so many bits each
pub spelled : (bits : ℕ) (digits : List ℕ) → AllDigits (2 ^ bits) digits
    → constant (2 ^ bits) bits digits ≡ vector (bits * length digits) (digits_value (2 ^ bits) digits)
spelled bits digits all =
    ap (vector (bits * length digits))
    (mod-eq_of_lt (subst (λ k. digits_value (2 ^ bits) digits < k) (power bits (length digits))
    (digits_value-lt (2 ^ bits) digits all)))
