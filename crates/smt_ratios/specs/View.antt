-- The rational numbers that numbers of the code are.
use Rattle.std.specs.Prelude.{Option, option_map}
use Rattle.smt_ratios.specs.Rational.{Fraction, Integer, Rational}
use Rattle.smt_ratios.specs.declared.number.Number.{Number}
use Rattle.smt_ratios.specs.declared.number.Number.TheVariants.{Integer as IntegerNumber}
use Rattle.smt_ratios.specs.declared.number.Number.TheVariants.{Ratio as RatioNumber}

abbrev pub rational_of : Number → Rational
rational_of (IntegerNumber z) = Integer z
rational_of (RatioNumber r) = Fraction r.numerator r.denominator

abbrev pub known_rational : Option Number → Option Rational
known_rational number = option_map rational_of number
