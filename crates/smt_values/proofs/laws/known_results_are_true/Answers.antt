use Rattle.smt_values.proofs.MeaningLemmas.{known_step_true}
use Rattle.smt_values.proofs.laws.known_results_are_true.Goals as goal

pub returns : goal.returns
returns c = known_step_true c.known_results_are_results.ensures.result
