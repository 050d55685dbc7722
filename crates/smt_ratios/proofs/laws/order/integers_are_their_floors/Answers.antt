use Rattle.smt_ratios.proofs.LawLemmas.{floor_is_integer, integer_is_floor}
use Rattle.smt_ratios.proofs.laws.order.integers_are_their_floors.Goals as goal

pub returns-clause-integer : goal.returns-clause-integer
returns-clause-integer c = integer_is_floor

pub returns-clause-fraction : goal.returns-clause-fraction
returns-clause-fraction c = floor_is_integer
