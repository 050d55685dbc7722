use Rattle.smt_dialogue.proofs.TooLongLemmas.{long_costs, cost_is_long}
use Rattle.smt_dialogue.proofs.laws.too_long_models_cost_more_than_the_limit.Goals as goal

pub returns-clause-long : goal.returns-clause-long
returns-clause-long c = long_costs

pub returns-clause-told : goal.returns-clause-told
returns-clause-told c = cost_is_long
