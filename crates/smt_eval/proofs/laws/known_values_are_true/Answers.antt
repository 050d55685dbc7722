use Rattle.smt_eval.proofs.MeaningLemmas.{known_is_true}
use Rattle.smt_eval.proofs.laws.known_values_are_true.Goals as goal

pub returns : goal.returns
returns c = known_is_true c.known_results_are_true.ensures c.decimals_are_their_digits.ensures.known
