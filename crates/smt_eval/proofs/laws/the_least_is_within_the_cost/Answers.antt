use Rattle.smt_eval.proofs.LeastLemmas.{least_within}
use Rattle.smt_eval.proofs.laws.the_least_is_within_the_cost.Goals as goal

pub returns : goal.returns
returns c = least_within
