-- What is known of an operator's result: it, where every product and sum on the way to it is within 128 bits
-- before it is put in lowest terms, and its denominator is within 120. Else it is open. That is this project's own
-- rule.
use Rattle.std.specs.Prelude.{ℕ, ◌*◌, ◌^◌, ℤ, pos, negsuc, ◌+ℤ◌, ◌-ℤ◌, ◌*ℤ◌, neg_ℤ, unsigned_abs, List, []}
use Rattle.std.specs.Prelude.{◌∷◌}
use Rattle.std.specs.Prelude.{Bool, nat_lt, Option, Some, None, if◌then◌else◌}
use Rattle.std.specs.List.{list_all}
use Rattle.smt_ratios.specs.Operators.{cross, decimal, difference, negative, product, quotient, sum}
use Rattle.smt_ratios.specs.Operators.{with_sign_of}
use Rattle.smt_ratios.specs.Rational.{denominator, numerator, Rational}

-- from -2 ^ 127 to 2 ^ 127 - 1
abbrev pub is_within : ℤ → Bool
is_within (pos n) = nat_lt n (2 ^ 127)
is_within (negsuc n) = nat_lt n (2 ^ 127)

-- the integer, where it is within 128 bits
abbrev pub within : ℤ → Option ℤ
within z = if is_within z then Some z else None

-- the number, where its denominator is at most 2 ^ 120 - 1
abbrev pub held : Rational → Option Rational
held r = if nat_lt (denominator r) (2 ^ 120) then Some r else None

-- the result r, of these integers on the way
unfoldable pub known : List ℤ → Rational → Option Rational
known steps r = if list_all is_within steps then held r else None

abbrev pub known_sum : Rational → Rational → Option Rational
known_sum a b = known
    (cross a b ∷ cross b a ∷ (cross a b +ℤ cross b a) ∷ pos (denominator a * denominator b) ∷ [])
    (sum a b)

abbrev pub known_difference : Rational → Rational → Option Rational
known_difference a b = known
    (cross a b ∷ cross b a ∷ (cross a b -ℤ cross b a) ∷ pos (denominator a * denominator b) ∷ [])
    (difference a b)

abbrev pub known_negative : Rational → Option Rational
known_negative a = known (neg_ℤ (numerator a) ∷ []) (negative a)

abbrev pub known_product : Rational → Rational → Option Rational
known_product a b = known
    ((numerator a *ℤ numerator b) ∷ pos (denominator a * denominator b) ∷ [])
    (product a b)

abbrev pub known_quotient : Rational → Rational → Option Rational
known_quotient a b = known
    ((numerator a *ℤ with_sign_of (numerator b) (denominator b))
    ∷ pos (denominator a * unsigned_abs (numerator b)) ∷ [])
    (quotient a b)

abbrev pub known_decimal : ℕ → ℕ → Option Rational
known_decimal digits places =
    if nat_lt places 39 then known (pos digits ∷ []) (decimal digits places) else None
