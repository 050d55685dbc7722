use Rattle.smt_ratios.proofs.LawLemmas.{one_by_cross}
use Rattle.smt_ratios.proofs.laws.numbers.numbers_are_one.Goals as goal

pub returns : goal.returns
returns c = one_by_cross
