-- SMT-LIB 2.6, theory Reals_Ints: what the operators make of rational numbers, of any size.
use Rattle.std.specs.Prelude.{ℕ, ◌*◌, ◌^◌, ℤ, pos, negsuc, ◌+ℤ◌, ◌-ℤ◌, ◌*ℤ◌, neg_ℤ, unsigned_abs, int_lt}
use Rattle.std.specs.Prelude.{Bool, true, false, ◌&&◌, ◌==◌}
use Rattle.std.specs.Int.{int_div_euclid}
use Rattle.std.specs.Ordering.{int_eq}
use Rattle.smt_ratios.specs.Rational.{denominator, Fraction, Integer, numerator, ratio, Rational}

-- the numerator of a over the product of the denominators of a and b
abbrev pub cross : Rational → Rational → ℤ
cross a b = numerator a *ℤ pos (denominator b)

abbrev pub sum : Rational → Rational → Rational
sum a b = ratio (cross a b +ℤ cross b a) (denominator a * denominator b)

abbrev pub difference : Rational → Rational → Rational
difference a b = ratio (cross a b -ℤ cross b a) (denominator a * denominator b)

abbrev pub negative : Rational → Rational
negative a = ratio (neg_ℤ (numerator a)) (denominator a)

abbrev pub product : Rational → Rational → Rational
product a b = ratio (numerator a *ℤ numerator b) (denominator a * denominator b)

-- d with the sign of z, for z other than 0
abbrev pub with_sign_of : ℤ → ℕ → ℤ
with_sign_of (pos n) d = pos d
with_sign_of (negsuc n) d = neg_ℤ (pos d)

-- by a number other than 0, whose sign goes to the numerator
abbrev pub quotient : Rational → Rational → Rational
quotient a b =
    ratio (numerator a *ℤ with_sign_of (numerator b) (denominator b)) (denominator a * unsigned_abs (numerator b))

abbrev pub is_less : Rational → Rational → Bool
is_less a b = int_lt (cross a b) (cross b a)

abbrev pub is_equal : Rational → Rational → Bool
is_equal (Integer x) (Integer y) = int_eq x y
is_equal (Fraction n d) (Fraction m e) = int_eq n m && d == e
is_equal a b = false

-- the greatest integer that is not over the number
abbrev pub floor : Rational → ℤ
floor a = int_div_euclid (numerator a) (pos (denominator a))

abbrev pub is_integer : Rational → Bool
is_integer (Integer z) = true
is_integer (Fraction n d) = false

-- the number of a decimal, whose digits without the point are a numeral, and of which so many are behind it
abbrev pub decimal : ℕ → ℕ → Rational
decimal digits places = ratio (pos digits) (10 ^ places)
