use Rattle.smt_eval.proofs.CompleteModelLemmas.{model_is_items}
use Rattle.smt_eval.proofs.laws.models_are_their_items.Goals as goal

pub returns : goal.returns
returns c = model_is_items
