-- Rational numbers in lowest terms: each is one element.
use Rattle.std.specs.Prelude.{ℕ, ◌+◌, ◌%◌, ◌/◌, ◌≤◌, ◌==◌, zero, suc, ℤ, pos, int_div, unsigned_abs}
use Rattle.std.specs.Prelude.{if◌then◌else◌, ◌&&◌}
use Rattle.std.specs.Int.{IsGcd}

-- a rational number: an integer, or a fraction that is none
pub data Rational : Type 0 where
  Integer : (z : ℤ) → Rational
  Fraction : (numerator : ℤ) → (denominator : ℕ) → Rational

-- a fraction's terms have no divisor in common, and its denominator is 2 or more
abbrev pub IsRational : Rational → Type 0
IsRational (Integer z) = Unit {0}
IsRational (Fraction n d) = (2 ≤ d) × IsGcd (unsigned_abs n) d 1

abbrev pub numerator : Rational → ℤ
numerator (Integer z) = z
numerator (Fraction n d) = n

abbrev pub denominator : Rational → ℕ
denominator (Integer z) = 1
denominator (Fraction n d) = d

-- ---- lowest terms

-- the greatest number up to k that divides a and b
abbrev pub greatest_divisor : ℕ → ℕ → ℕ → ℕ
greatest_divisor zero a b = 0
greatest_divisor (suc k) a b = if a % suc k == 0 && b % suc k == 0 then suc k else greatest_divisor k a b

-- the greatest common divisor
unfoldable pub gcd : ℕ → ℕ → ℕ
gcd a b = greatest_divisor (a + b) a b

-- the number of terms that have no divisor in common
abbrev pub from_terms : ℤ → ℕ → Rational
from_terms n d = if d == 1 then Integer n else Fraction n d

abbrev pub divided : ℕ → ℤ → ℕ → Rational
divided g n d = from_terms (int_div n (pos g)) (d / g)

-- n / d, for d other than 0
abbrev pub ratio : ℤ → ℕ → Rational
ratio n d = divided (gcd (unsigned_abs n) d) n d
