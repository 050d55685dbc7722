use Rattle.smt_eval.proofs.LetLemmas.{call_is_let, constant_is_body, other_names_stay}
use Rattle.smt_eval.proofs.laws.terms.calls_are_lets.Goals as goal

pub returns-clause-call : goal.returns-clause-call
returns-clause-call c = call_is_let

pub returns-clause-constant : goal.returns-clause-constant
returns-clause-constant c = constant_is_body

pub returns-clause-others : goal.returns-clause-others
returns-clause-others c = other_names_stay
