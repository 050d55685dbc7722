use Rattle.smt_values.proofs.ConnectiveLemmas.{false_premise, true_conclusion}
use Rattle.smt_values.proofs.laws.known.one_argument_decides.Goals as goal

pub returns-clause-premise : goal.returns-clause-premise
returns-clause-premise c = false_premise

pub returns-clause-conclusion : goal.returns-clause-conclusion
returns-clause-conclusion c = true_conclusion
