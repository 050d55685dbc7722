use Rattle.smt_ratios.proofs.LawLemmas.{integer_difference, integer_product, integer_sum}
use Rattle.smt_ratios.proofs.laws.operators.integers_are_calculated_as_integers.Goals as goal

pub returns-clause-sum : goal.returns-clause-sum
returns-clause-sum c = integer_sum

pub returns-clause-difference : goal.returns-clause-difference
returns-clause-difference c = integer_difference

pub returns-clause-product : goal.returns-clause-product
returns-clause-product c = integer_product
