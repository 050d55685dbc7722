use Rattle.smt_values.proofs.NumberLemmas.{calculated_alike, compared_alike, negative_alike}
use Rattle.smt_values.proofs.laws.rationals.integers_are_calculated_alike.Goals as goal

pub returns-clause-calculated : goal.returns-clause-calculated
returns-clause-calculated c = calculated_alike record {
  sums = c.integers_are_calculated_as_integers.ensures.sum;
  differences = c.integers_are_calculated_as_integers.ensures.difference;
  products = c.integers_are_calculated_as_integers.ensures.product;
  negatives = c.negatives_have_the_other_sign.ensures.integer;
  order = c.the_order_is_total.ensures.integers;
}

pub returns-clause-negative : goal.returns-clause-negative
returns-clause-negative c = negative_alike record {
  sums = c.integers_are_calculated_as_integers.ensures.sum;
  differences = c.integers_are_calculated_as_integers.ensures.difference;
  products = c.integers_are_calculated_as_integers.ensures.product;
  negatives = c.negatives_have_the_other_sign.ensures.integer;
  order = c.the_order_is_total.ensures.integers;
}

pub returns-clause-compared : goal.returns-clause-compared
returns-clause-compared c = compared_alike record {
  sums = c.integers_are_calculated_as_integers.ensures.sum;
  differences = c.integers_are_calculated_as_integers.ensures.difference;
  products = c.integers_are_calculated_as_integers.ensures.product;
  negatives = c.negatives_have_the_other_sign.ensures.integer;
  order = c.the_order_is_total.ensures.integers;
}
