use Rattle.smt_ratios.proofs.LawLemmas.{difference_exact, difference_number, difference_one}
use Rattle.smt_ratios.proofs.laws.operators.differences_are_by_cross_products.Goals as goal

pub returns-clause-number : goal.returns-clause-number
returns-clause-number c = difference_number

pub returns-clause-exact : goal.returns-clause-exact
returns-clause-exact c = difference_exact

pub returns-clause-one : goal.returns-clause-one
returns-clause-one c = difference_one
