use Rattle.smt_ratios.proofs.LawLemmas.{known_integer_difference, known_integer_negative, known_integer_product, known_integer_sum}
use Rattle.smt_ratios.proofs.laws.operators.integers_are_known_as_integers.Goals as goal

pub returns-clause-sum : goal.returns-clause-sum
returns-clause-sum c = known_integer_sum

pub returns-clause-difference : goal.returns-clause-difference
returns-clause-difference c = known_integer_difference

pub returns-clause-product : goal.returns-clause-product
returns-clause-product c = known_integer_product

pub returns-clause-negative : goal.returns-clause-negative
returns-clause-negative c = known_integer_negative
