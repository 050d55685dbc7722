use Rattle.smt_values.proofs.RationalLemmas.{floor_above, floor_at_most, floor_one, integer_where}
use Rattle.smt_values.proofs.laws.rationals.floors_are_the_greatest_integers_below.Goals as goal

pub returns-clause-at_most : goal.returns-clause-at_most
returns-clause-at_most c = λ z a h.
    floor_at_most z (record {
      calculated_as = c.integers_are_calculated_alike.ensures.calculated z;
      compared_as = c.integers_are_calculated_alike.ensures.compared z;
    }) a (c.floors_are_the_greatest_integers_below.ensures.at_most a h)

pub returns-clause-above : goal.returns-clause-above
returns-clause-above c = λ z a h.
    floor_above z (record {
      calculated_as = c.integers_are_calculated_alike.ensures.calculated z;
      compared_as = c.integers_are_calculated_alike.ensures.compared z;
    }) a (c.floors_are_the_greatest_integers_below.ensures.above a h)

pub returns-clause-one : goal.returns-clause-one
returns-clause-one c = λ z a n h.
    floor_one z (record {
      calculated_as = c.integers_are_calculated_alike.ensures.calculated z;
      compared_as = c.integers_are_calculated_alike.ensures.compared z;
    }) a n (λ low high. c.floors_are_the_greatest_integers_below.ensures.one a n h low high)

pub returns-clause-integers : goal.returns-clause-integers
returns-clause-integers c = λ z a.
    integer_where z (record {
      calculated_as = c.integers_are_calculated_alike.ensures.calculated z;
      compared_as = c.integers_are_calculated_alike.ensures.compared z;
    }) a (c.integers_are_their_floors.ensures.integer a) (c.integers_are_their_floors.ensures.fraction a)
