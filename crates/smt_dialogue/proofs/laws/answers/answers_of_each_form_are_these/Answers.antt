use Rattle.std.proofs.Common.{codes}
use Rattle.smt_dialogue.proofs.AnswerFormLemmas.{either, list, no_symbol, one_of_four, refusal, symbol, text}
use Rattle.smt_dialogue.proofs.laws.answers.answers_of_each_form_are_these.Goals as goal

pub returns-clause-general : goal.returns-clause-general
returns-clause-general c = λ answer. either _ _ (symbol (codes "success") answer) (refusal answer)

pub returns-clause-success : goal.returns-clause-success
returns-clause-success c = symbol (codes "success")

pub returns-clause-unsupported : goal.returns-clause-unsupported
returns-clause-unsupported c = symbol (codes "unsupported")

pub returns-clause-check : goal.returns-clause-check
returns-clause-check c = λ answer. one_of_four _ _ _ _ (symbol (codes "sat") answer)
    (symbol (codes "unsat") answer) (symbol (codes "unknown") answer) (refusal answer)

pub returns-clause-model : goal.returns-clause-model
returns-clause-model c = λ answer. either _ _ (list answer) (symbol (codes "unsupported") answer)

pub returns-clause-echo : goal.returns-clause-echo
returns-clause-echo c = λ answer. either _ _ (text answer) (refusal answer)

pub returns-clause-other : goal.returns-clause-other
returns-clause-other c = no_symbol (codes "success")
