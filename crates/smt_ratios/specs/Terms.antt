-- The terms of a fraction, as a `Ratio` holds them.
use Rattle.std.specs.Prelude.{ℕ, ◌+◌, ◌*◌, ◌^◌, ◌<◌, ◌≤◌, ◌==◌, ℤ, unsigned_abs, Bool, ◌&&◌}
use Rattle.std.specs.Int.{cast_signed, IsGcd, w128}
use Rattle.std.specs.Ordering.{int_eq}

pub record Terms : Type 0 where
  pub numerator : ℤ
  pub denominator : ℕ

pub record IsLowest (t : Terms) : Type 0 where
  pub alone : IsGcd (unsigned_abs t.numerator) t.denominator 1
  pub some : 2 ≤ t.denominator
  pub below : t.denominator < 2 ^ 120

abbrev pub same_terms : Terms → Terms → Bool
same_terms a b = int_eq a.numerator b.numerator && a.denominator == b.denominator

-- ---- in words of 64 bits, of which two's complement makes the numerator

abbrev pub from_words : ℕ → ℕ → ℕ
from_words high low = high * 2 ^ 64 + low

abbrev pub terms_of : ℕ → ℕ → ℕ → ℕ → Terms
terms_of high low denominator_high denominator_low = record {
  numerator = cast_signed w128 (from_words high low);
  denominator = from_words denominator_high denominator_low;
}

-- the words are words, and the terms that they are have no divisor in common
pub record IsPacked (high low denominator_high denominator_low : ℕ) : Type 0 where
  pub high_fits : high < 2 ^ 64
  pub low_fits : low < 2 ^ 64
  pub denominator_high_fits : denominator_high < 2 ^ 56
  pub denominator_low_fits : denominator_low < 2 ^ 64
  pub lowest : IsLowest (terms_of high low denominator_high denominator_low)
