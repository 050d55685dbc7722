-- What the operators on rational numbers are known to make of known numbers. What is known, and what stays open, is
-- this project's own rule; where a result is known, it is the standard's.
use Rattle.std.specs.Prelude.{pos, List, [], ◌∷◌, Bool, true, false, Option, Some, None, option_map, map}
use Rattle.std.specs.Prelude.{if◌then◌else◌}
use Rattle.std.specs.Ordering.{int_eq}
use Rattle.smt_ratios.specs.Known.{known_difference, known_negative, known_product, known_quotient, known_sum}
use Rattle.smt_ratios.specs.Operators.{floor, is_integer}
use Rattle.smt_ratios.specs.Rational as rational
use Rattle.smt_ratios.specs.Rational.{numerator, Rational}
use Rattle.smt_theory.specs.declared.op.Arithmetic.{Arithmetic}
use Rattle.smt_theory.specs.declared.op.Arithmetic.TheVariants.{Minus, Plus, Times, Div}
use Rattle.smt_theory.specs.declared.op.IntsOp.{IntsOp}
use Rattle.smt_theory.specs.declared.op.IntsOp.TheVariants.{Arithmetic as Left, Comparison as Chain}
use Rattle.smt_theory.specs.declared.op.RealsOp.{RealsOp}
use Rattle.smt_theory.specs.declared.op.RealsOp.TheVariants.{Divide, ToReal, ToInt, IsInt}
use Rattle.smt_values.specs.Element.{Element, Truth, Integer, Fraction}
use Rattle.smt_values.specs.Lists.{all_known, are_chained, steps_from}
use Rattle.smt_values.specs.Numbers.{element_of_number, orders}

abbrev pub known_number : Option Element → Option Rational
known_number (Some (Integer z)) = Some (rational.Integer z)
known_number (Some (Fraction n d)) = Some (rational.Fraction n d)
known_number _ = None

-- the numbers that the arguments are known to be, where each is
abbrev pub known_numbers : List (Option Element) → Option (List Rational)
known_numbers args = all_known (map known_number args)

abbrev pub is_known_fraction : Option Element → Bool
is_known_fraction (Some (Fraction n d)) = true
is_known_fraction _ = false

abbrev pub known_calculated : Arithmetic → Rational → Rational → Option Rational
known_calculated Minus a b = known_difference a b
known_calculated Plus a b = known_sum a b
known_calculated Times a b = known_product a b
known_calculated Div a b = None

-- an operator of Ints too, where an argument is a fraction: each partial result is known
abbrev pub known_mixed : IntsOp → List Rational → Option Element
known_mixed (Left Minus) (a ∷ []) = option_map element_of_number (known_negative a)
known_mixed (Left op) (a ∷ rest) = option_map element_of_number (steps_from (known_calculated op) a rest)
known_mixed (Chain op) args = Some (Truth (are_chained (orders op) args))
known_mixed _ _ = None

-- open at divisor 0
abbrev pub known_division : Rational → Rational → Option Rational
known_division a b = if int_eq (numerator b) (pos 0) then None else known_quotient a b

abbrev pub known_reals : RealsOp → List Rational → Option Element
known_reals Divide (a ∷ rest) = option_map element_of_number (steps_from known_division a rest)
known_reals ToReal (a ∷ []) = Some (element_of_number a)
known_reals ToInt (a ∷ []) = Some (Integer (floor a))
known_reals IsInt (a ∷ []) = Some (Truth (is_integer a))
known_reals _ _ = None
