use Rattle.smt_bits.proofs.ArithmeticLemmas.{quotient_one}
use Rattle.smt_bits.proofs.laws.arithmetic.unsigned_division_is_by_the_law.Goals as goal

pub returns-clause-one : goal.returns-clause-one
returns-clause-one c = quotient_one
