use Rattle.smt_eval.proofs.ElementNameLemmas.{alone_value, compared, names_apart}
use Rattle.smt_eval.proofs.laws.elements.two_names_are_two_elements.Goals as goal

pub returns-clause-alone : goal.returns-clause-alone
returns-clause-alone c = alone_value

pub returns-clause-apart : goal.returns-clause-apart
returns-clause-apart c = names_apart

pub returns-clause-compared : goal.returns-clause-compared
returns-clause-compared c = compared
