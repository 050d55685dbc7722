use Rattle.smt_ratios.proofs.LawLemmas.{decimal_exact, decimal_number}
use Rattle.smt_ratios.proofs.laws.operators.decimals_are_by_cross_products.Goals as goal

pub returns-clause-number : goal.returns-clause-number
returns-clause-number c = decimal_number

pub returns-clause-exact : goal.returns-clause-exact
returns-clause-exact c = decimal_exact
