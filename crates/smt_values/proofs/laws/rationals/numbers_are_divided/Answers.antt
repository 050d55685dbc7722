use Rattle.smt_values.proofs.RationalLemmas.{divided_by_zero, divided_from_left, times_divisor}
use Rattle.smt_values.proofs.laws.rationals.numbers_are_divided.Goals as goal

pub returns-clause-back : goal.returns-clause-back
returns-clause-back c = λ z a b h k some.
    times_divisor z (record {
      calculated_as = c.integers_are_calculated_alike.ensures.calculated z;
      compared_as = c.integers_are_calculated_alike.ensures.compared z;
    }) a b some (c.quotients_undo_products.ensures.back a b h k some)

pub returns-clause-by_zero : goal.returns-clause-by_zero
returns-clause-by_zero c = λ z. divided_by_zero z (record {
  calculated_as = c.integers_are_calculated_alike.ensures.calculated z;
  compared_as = c.integers_are_calculated_alike.ensures.compared z;
})

pub returns-clause-left : goal.returns-clause-left
returns-clause-left c = λ z. divided_from_left z (record {
  calculated_as = c.integers_are_calculated_alike.ensures.calculated z;
  compared_as = c.integers_are_calculated_alike.ensures.compared z;
})
