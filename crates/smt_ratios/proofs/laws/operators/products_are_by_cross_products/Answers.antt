use Rattle.smt_ratios.proofs.LawLemmas.{product_exact, product_number, product_one}
use Rattle.smt_ratios.proofs.laws.operators.products_are_by_cross_products.Goals as goal

pub returns-clause-number : goal.returns-clause-number
returns-clause-number c = product_number

pub returns-clause-exact : goal.returns-clause-exact
returns-clause-exact c = product_exact

pub returns-clause-one : goal.returns-clause-one
returns-clause-one c = product_one
