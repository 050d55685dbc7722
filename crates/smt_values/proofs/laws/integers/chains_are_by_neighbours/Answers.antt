use Rattle.smt_values.proofs.NumberLemmas.{chained_by_neighbours}
use Rattle.smt_values.proofs.laws.integers.chains_are_by_neighbours.Goals as goal

pub returns-clause-chained : goal.returns-clause-chained
returns-clause-chained c = λ z. chained_by_neighbours z record {
  calculated_as = c.integers_are_calculated_alike.ensures.calculated z;
  compared_as = c.integers_are_calculated_alike.ensures.compared z;
}
