use Rattle.smt_ratios.proofs.LawLemmas.{sum_exact, sum_number, sum_one}
use Rattle.smt_ratios.proofs.laws.operators.sums_are_by_cross_products.Goals as goal

pub returns-clause-number : goal.returns-clause-number
returns-clause-number c = sum_number

pub returns-clause-exact : goal.returns-clause-exact
returns-clause-exact c = sum_exact

pub returns-clause-one : goal.returns-clause-one
returns-clause-one c = sum_one
