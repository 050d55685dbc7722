use Rattle.smt_theory.specs.declared.op.Comparison.TheVariants.{AtLeast, AtMost, Greater, Less}
use Rattle.smt_ratios.specs.Operators.{cross}
use Rattle.smt_values.proofs.RationalLemmas.{compared_two, less_where, most_where}
use Rattle.smt_values.proofs.laws.rationals.numbers_are_compared_by_cross_products.Goals as goal

pub returns-clause-less : goal.returns-clause-less
returns-clause-less c = λ z a b.
    less_where (cross a b) (cross b a) (compared_two z (record {
      calculated_as = c.integers_are_calculated_alike.ensures.calculated z;
      compared_as = c.integers_are_calculated_alike.ensures.compared z;
    }) Less a b)

pub returns-clause-at_most : goal.returns-clause-at_most
returns-clause-at_most c = λ z a b.
    most_where (cross a b) (cross b a) (compared_two z (record {
      calculated_as = c.integers_are_calculated_alike.ensures.calculated z;
      compared_as = c.integers_are_calculated_alike.ensures.compared z;
    }) AtMost a b)

pub returns-clause-greater : goal.returns-clause-greater
returns-clause-greater c = λ z a b.
    less_where (cross b a) (cross a b) (compared_two z (record {
      calculated_as = c.integers_are_calculated_alike.ensures.calculated z;
      compared_as = c.integers_are_calculated_alike.ensures.compared z;
    }) Greater a b)

pub returns-clause-at_least : goal.returns-clause-at_least
returns-clause-at_least c = λ z a b.
    most_where (cross b a) (cross a b) (compared_two z (record {
      calculated_as = c.integers_are_calculated_alike.ensures.calculated z;
      compared_as = c.integers_are_calculated_alike.ensures.compared z;
    }) AtLeast a b)
