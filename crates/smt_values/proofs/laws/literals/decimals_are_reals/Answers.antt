use Rattle.smt_ratios.specs.Operators.{decimal}
use Rattle.smt_ratios.specs.Rational as rational
use Rattle.smt_ratios.specs.Rational.{IsRational, Rational}
use Rattle.smt_theory.specs.Sort.{Real}
use Rattle.smt_values.specs.Element.{IsOfSort}
use Rattle.smt_values.specs.Decimals.{decimal_digits, places}
use Rattle.smt_values.specs.Numbers.{element_of_number}
use Rattle.smt_values.proofs.laws.literals.decimals_are_reals.Goals as goal

-- a rational number is a real
number_real : (a : Rational) → IsRational a → IsOfSort Real (element_of_number a)
number_real (rational.Integer z) is = tt
number_real (rational.Fraction n d) is = is

pub returns : goal.returns
returns c = λ digits. number_real (decimal (decimal_digits digits) (places digits))
    (c.decimals_are_by_cross_products.ensures.number (decimal_digits digits) (places digits))
