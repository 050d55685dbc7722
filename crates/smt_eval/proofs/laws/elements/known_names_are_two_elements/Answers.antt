use Rattle.smt_eval.proofs.ElementNameLemmas.{alone_held, qualified_name, known_apart, known_compared, known_name}
use Rattle.smt_eval.proofs.laws.elements.known_names_are_two_elements.Goals as goal

pub returns-clause-name : goal.returns-clause-name
returns-clause-name c = known_name

pub returns-clause-qualified : goal.returns-clause-qualified
returns-clause-qualified c = qualified_name

pub returns-clause-alone : goal.returns-clause-alone
returns-clause-alone c = alone_held

pub returns-clause-apart : goal.returns-clause-apart
returns-clause-apart c = known_apart

pub returns-clause-compared : goal.returns-clause-compared
returns-clause-compared c = known_compared
