use Rattle.smt_dialogue.proofs.AnswerLawLemmas.{models_joined, model_told, no_model_refused, no_other_model}
use Rattle.smt_dialogue.proofs.laws.windows.models_are_the_lists_that_were_asked_for.Goals as goal

pub returns-clause-joined : goal.returns-clause-joined
returns-clause-joined c = λ n xs ys. models_joined n xs ys

pub returns-clause-model : goal.returns-clause-model
returns-clause-model c = λ n parts told. model_told n parts told

pub returns-clause-refused : goal.returns-clause-refused
returns-clause-refused c = λ n command answer refused. no_model_refused n command answer refused

pub returns-clause-others : goal.returns-clause-others
returns-clause-others c = λ n command answer other. no_other_model n command answer other
