use Rattle.smt_ratios.proofs.LawLemmas.{ratio_one}
use Rattle.smt_ratios.proofs.RatioLemmas.{ratio-IsRational, ratio-quotient}
use Rattle.smt_ratios.proofs.laws.numbers.ratios_are_quotients.Goals as goal

pub returns-clause-lowest : goal.returns-clause-lowest
returns-clause-lowest c = ratio-IsRational

pub returns-clause-exact : goal.returns-clause-exact
returns-clause-exact c = ratio-quotient

pub returns-clause-one : goal.returns-clause-one
returns-clause-one c = ratio_one
