-- SMT-LIB 2.6, theories Reals and Reals_Ints: the meaning of the operators on rational numbers. What an operator gives
-- for arguments that it has no rank for is of no interest.
use Rattle.std.specs.Prelude.{ℕ, suc, ℤ, pos, List, [], ◌∷◌, Bool, true, false, not, fold, if◌then◌else◌}
use Rattle.std.specs.Ordering.{int_eq}
use Rattle.smt_ratios.specs.Operators.{difference, floor, is_equal, is_integer, is_less, negative, product, quotient}
use Rattle.smt_ratios.specs.Operators.{sum}
use Rattle.smt_ratios.specs.Rational as rational
use Rattle.smt_ratios.specs.Rational.{numerator, ratio, Rational}
use Rattle.smt_theory.specs.declared.op.Arithmetic.{Arithmetic}
use Rattle.smt_theory.specs.declared.op.Arithmetic.TheVariants.{Minus, Plus, Times, Div}
use Rattle.smt_theory.specs.declared.op.Comparison.{Comparison}
use Rattle.smt_theory.specs.declared.op.Comparison.TheVariants.{AtMost, Less, AtLeast, Greater}
use Rattle.smt_theory.specs.declared.op.IntsOp.{IntsOp}
use Rattle.smt_theory.specs.declared.op.IntsOp.TheVariants.{Arithmetic as Left, Comparison as Chain}
use Rattle.smt_theory.specs.declared.op.RealsOp.{RealsOp}
use Rattle.smt_theory.specs.declared.op.RealsOp.TheVariants.{Divide, ToReal, ToInt, IsInt}
use Rattle.smt_values.specs.Element.{Element, Truth, Integer, Fraction}
use Rattle.smt_values.specs.Lists.{are_chained}

-- the number that an element is; of another element this is of no interest
abbrev pub number_of : Element → Rational
number_of (Integer z) = rational.Integer z
number_of (Fraction n d) = rational.Fraction n d
number_of _ = rational.Integer (pos 0)

-- the element that a number is
abbrev pub element_of_number : Rational → Element
element_of_number (rational.Integer z) = Integer z
element_of_number (rational.Fraction n d) = Fraction n d

abbrev pub is_fraction : Element → Bool
is_fraction (Fraction n d) = true
is_fraction _ = false

-- ---- operators of Ints too, where an argument is a fraction

abbrev pub calculated : Arithmetic → Rational → Rational → Rational
calculated Minus a b = difference a b
calculated Plus a b = sum a b
calculated Times a b = product a b
calculated Div a b = a

abbrev pub orders : Comparison → Rational → Rational → Bool
orders AtMost a b = not (is_less b a)
orders Less a b = is_less a b
orders AtLeast a b = not (is_less a b)
orders Greater a b = is_less b a

abbrev pub operate_numbers : IntsOp → List Rational → Element
operate_numbers (Left Minus) (a ∷ []) = element_of_number (negative a)
operate_numbers (Left op) (a ∷ rest) = element_of_number (fold (calculated op) a rest)
operate_numbers (Chain op) args = Truth (are_chained (orders op) args)
operate_numbers _ _ = Truth false

-- ---- operators of Reals alone

-- an integer over one more than a natural number: every rational number is one
pub record Quotient : Type 0 where
  pub top : ℤ
  pub less_one : ℕ

abbrev pub number_of_quotient : Quotient → Rational
number_of_quotient q = ratio q.top (suc q.less_one)

-- what a table from a dividend to the result gives; outside of it 0
abbrev pub ratio_at_zero : List (Quotient × Quotient) → Rational → Rational
ratio_at_zero [] a = rational.Integer (pos 0)
ratio_at_zero (row ∷ table) a =
    if is_equal a (number_of_quotient row.0) then number_of_quotient row.1 else ratio_at_zero table a

-- `/`: by 0 it gives what the table has
abbrev pub divided : List (Quotient × Quotient) → Rational → Rational → Rational
divided table a b = if int_eq (numerator b) (pos 0) then ratio_at_zero table a else quotient a b

abbrev pub operate_reals : List (Quotient × Quotient) → RealsOp → List Rational → Element
operate_reals table Divide (a ∷ rest) = element_of_number (fold (divided table) a rest)
operate_reals table ToReal (a ∷ []) = element_of_number a
operate_reals table ToInt (a ∷ []) = Integer (floor a)
operate_reals table IsInt (a ∷ []) = Truth (is_integer a)
operate_reals table _ _ = Truth false
