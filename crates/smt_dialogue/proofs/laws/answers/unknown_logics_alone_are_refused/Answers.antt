use Rattle.smt_dialogue.proofs.AnswerFormLemmas.{known_passed, others_passed, unknown_refused}
use Rattle.smt_dialogue.proofs.laws.answers.unknown_logics_alone_are_refused.Goals as goal

pub returns-clause-unknown : goal.returns-clause-unknown
returns-clause-unknown c = unknown_refused

pub returns-clause-known : goal.returns-clause-known
returns-clause-known c = known_passed

pub returns-clause-others : goal.returns-clause-others
returns-clause-others c = others_passed
