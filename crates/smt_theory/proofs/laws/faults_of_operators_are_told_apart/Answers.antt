use Rattle.smt_theory.proofs.OperatorFaultLemmas.{index_missed, indexed_unknown, missed_index, plain_unknown}
use Rattle.smt_theory.proofs.OperatorFaultLemmas.{unknown_indexed, unknown_plain}
use Rattle.smt_theory.proofs.laws.faults_of_operators_are_told_apart.Goals as goal

pub returns-clause-index : goal.returns-clause-index
returns-clause-index c =
    λ theories symbol indexes. (index_missed theories symbol indexes, missed_index theories symbol indexes)

pub returns-clause-plain : goal.returns-clause-plain
returns-clause-plain c = λ theories symbol. (plain_unknown theories symbol, unknown_plain theories symbol)

pub returns-clause-indexed : goal.returns-clause-indexed
returns-clause-indexed c = λ theories symbol first rest.
    (indexed_unknown theories symbol first rest, unknown_indexed theories symbol first rest)
