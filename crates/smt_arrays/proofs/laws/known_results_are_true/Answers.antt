use Rattle.smt_arrays.proofs.MeaningLemmas.{step_true}
use Rattle.smt_arrays.proofs.laws.known_results_are_true.Goals as goal

pub returns : goal.returns
returns c z op knowns args h = step_true c.known_results_are_true.ensures z knowns args h op
