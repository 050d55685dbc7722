use Rattle.smt_theory.proofs.RankLemmas.{is_same_sort-Decides}
use Rattle.smt_theory.proofs.laws.sorts_are_compared.Goals as goal

pub returns : goal.returns
returns c = is_same_sort-Decides
