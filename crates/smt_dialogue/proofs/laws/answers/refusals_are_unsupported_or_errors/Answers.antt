use Rattle.smt_dialogue.proofs.AnswerLawLemmas.{is_a_refusal, refusal_is}
use Rattle.smt_dialogue.proofs.laws.answers.refusals_are_unsupported_or_errors.Goals as goal

pub returns : goal.returns
returns c = λ answer. (refusal_is answer, is_a_refusal answer)
