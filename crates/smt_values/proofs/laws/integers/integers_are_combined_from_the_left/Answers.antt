use Rattle.smt_values.proofs.NumberLemmas.{combined_from_left}
use Rattle.smt_values.proofs.laws.integers.integers_are_combined_from_the_left.Goals as goal

pub returns : goal.returns
returns c = λ z. combined_from_left z record {
  calculated_as = c.integers_are_calculated_alike.ensures.calculated z;
  compared_as = c.integers_are_calculated_alike.ensures.compared z;
}
