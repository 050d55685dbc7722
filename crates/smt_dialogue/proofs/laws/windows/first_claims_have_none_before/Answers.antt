use Rattle.smt_dialogue.proofs.AnswerLawLemmas.{first_found, is_found, none_found, none_passes}
use Rattle.smt_dialogue.proofs.laws.windows.first_claims_have_none_before.Goals as goal

pub returns-clause-found : goal.returns-clause-found
returns-clause-found c = λ test claims claim. (first_found test claims claim, is_found test claims claim)

pub returns-clause-none : goal.returns-clause-none
returns-clause-none c = λ test claims. (none_passes test claims, none_found test claims)
