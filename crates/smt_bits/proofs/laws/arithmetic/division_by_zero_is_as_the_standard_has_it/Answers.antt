use Rattle.smt_bits.proofs.BitLawLemmas.{all_ones, quotient_of_positive}
use Rattle.smt_bits.proofs.laws.arithmetic.division_by_zero_is_as_the_standard_has_it.Goals as goal

pub returns-clause-quotient : goal.returns-clause-quotient
returns-clause-quotient c = λ m s. all_ones m

pub returns-clause-positive : goal.returns-clause-positive
returns-clause-positive c = quotient_of_positive
