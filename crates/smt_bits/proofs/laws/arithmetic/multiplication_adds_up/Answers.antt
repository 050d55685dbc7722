use Rattle.smt_bits.proofs.ArithmeticLemmas.{product_of_sum}
use Rattle.smt_bits.proofs.laws.arithmetic.multiplication_adds_up.Goals as goal

pub returns-clause-by_sum : goal.returns-clause-by_sum
returns-clause-by_sum c = product_of_sum
