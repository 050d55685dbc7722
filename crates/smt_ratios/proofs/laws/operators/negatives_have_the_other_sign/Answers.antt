use Rattle.smt_ratios.proofs.LawLemmas.{negative_fraction, negative_integer, negative_number}
use Rattle.smt_ratios.proofs.laws.operators.negatives_have_the_other_sign.Goals as goal

pub returns-clause-integer : goal.returns-clause-integer
returns-clause-integer c = negative_integer

pub returns-clause-fraction : goal.returns-clause-fraction
returns-clause-fraction c = negative_fraction

pub returns-clause-number : goal.returns-clause-number
returns-clause-number c = negative_number
