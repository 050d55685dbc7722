use Rattle.smt_theory.specs.Ranks.{shape_of}
use Rattle.smt_theory.proofs.RankLemmas.{one_rank, shape-row}
use Rattle.smt_theory.proofs.laws.ranks_are_the_table.Goals as goal

pub returns-clause-computed : goal.returns-clause-computed
returns-clause-computed c = λ op. shape-row (shape_of op)

pub returns-clause-one : goal.returns-clause-one
returns-clause-one c = λ op. one_rank (shape_of op)
