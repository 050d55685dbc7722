use Rattle.smt_values.proofs.ConnectiveLemmas.{equal_chain}
use Rattle.smt_values.proofs.PairLemmas.{truths_are_distinct}
use Rattle.smt_values.proofs.laws.connectives.equals_and_distinct_are_by_pairs.Goals as goal

pub returns-clause-chained : goal.returns-clause-chained
returns-clause-chained c = λ z. equal_chain

pub returns-clause-all : goal.returns-clause-all
returns-clause-all c = λ z. truths_are_distinct
