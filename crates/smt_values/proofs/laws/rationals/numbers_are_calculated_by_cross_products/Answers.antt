use Rattle.std.proofs.Common.{◌≡◌, ◌*◌, pos, ◌+ℤ◌, ◌-ℤ◌, ◌*ℤ◌, ap}
use Rattle.smt_ratios.specs.Operators.{cross}
use Rattle.smt_ratios.specs.Rational.{denominator, numerator}
use Rattle.smt_theory.specs.declared.op.Arithmetic.TheVariants.{Minus, Plus, Times}
use Rattle.smt_values.specs.Numbers.{element_of_number}
use Rattle.smt_values.proofs.RationalLemmas.{result_only}
use Rattle.smt_values.proofs.laws.rationals.numbers_are_calculated_by_cross_products.Goals as goal

pub returns-clause-plus : goal.returns-clause-plus
returns-clause-plus c = λ z a b r h k l.
    result_only z (record {
      calculated_as = c.integers_are_calculated_alike.ensures.calculated z;
      compared_as = c.integers_are_calculated_alike.ensures.compared z;
    }) Plus
    (λ x. (cross a b +ℤ cross b a) *ℤ pos (denominator x) ≡ numerator x *ℤ pos (denominator a * denominator b)) a b r
    (λ e. cc) (c.sums_are_by_cross_products.ensures.exact a b h k)
    (c.sums_are_by_cross_products.ensures.one a b r h k l)

pub returns-clause-minus : goal.returns-clause-minus
returns-clause-minus c = λ z a b r h k l.
    result_only z (record {
      calculated_as = c.integers_are_calculated_alike.ensures.calculated z;
      compared_as = c.integers_are_calculated_alike.ensures.compared z;
    }) Minus
    (λ x. (cross a b -ℤ cross b a) *ℤ pos (denominator x) ≡ numerator x *ℤ pos (denominator a * denominator b)) a b r
    (λ e. cc) (c.differences_are_by_cross_products.ensures.exact a b h k)
    (c.differences_are_by_cross_products.ensures.one a b r h k l)

pub returns-clause-times : goal.returns-clause-times
returns-clause-times c = λ z a b r h k l.
    result_only z (record {
      calculated_as = c.integers_are_calculated_alike.ensures.calculated z;
      compared_as = c.integers_are_calculated_alike.ensures.compared z;
    }) Times
    (λ x. numerator a *ℤ numerator b *ℤ pos (denominator x) ≡ numerator x *ℤ pos (denominator a * denominator b)) a b r
    (λ e. cc) (c.products_are_by_cross_products.ensures.exact a b h k)
    (c.products_are_by_cross_products.ensures.one a b r h k l)

pub returns-clause-negative : goal.returns-clause-negative
returns-clause-negative c = λ z n d h.
    ap element_of_number (c.negatives_have_the_other_sign.ensures.fraction n d h)
