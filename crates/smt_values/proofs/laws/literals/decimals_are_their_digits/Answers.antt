use Rattle.smt_values.proofs.DecimalLemmas.{behind_point, decimal_exact, decimal_known}
use Rattle.smt_values.proofs.laws.literals.decimals_are_their_digits.Goals as goal

pub returns-clause-exact : goal.returns-clause-exact
returns-clause-exact c = decimal_exact c.decimals_are_by_cross_products.ensures.exact

pub returns-clause-places : goal.returns-clause-places
returns-clause-places c = behind_point 0

pub returns-clause-known : goal.returns-clause-known
returns-clause-known c = decimal_known c.known_results_are_results.ensures.result
