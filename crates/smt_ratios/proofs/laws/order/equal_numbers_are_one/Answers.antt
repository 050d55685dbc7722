use Rattle.smt_ratios.proofs.LawLemmas.{equal_one, one_equal}
use Rattle.smt_ratios.proofs.laws.order.equal_numbers_are_one.Goals as goal

pub returns-clause-one : goal.returns-clause-one
returns-clause-one c = equal_one

pub returns-clause-equal : goal.returns-clause-equal
returns-clause-equal c = one_equal
