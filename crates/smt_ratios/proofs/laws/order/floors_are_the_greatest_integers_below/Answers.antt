use Rattle.smt_ratios.proofs.LawLemmas.{floor_above, floor_at_most, floor_one}
use Rattle.smt_ratios.proofs.laws.order.floors_are_the_greatest_integers_below.Goals as goal

pub returns-clause-at_most : goal.returns-clause-at_most
returns-clause-at_most c = floor_at_most

pub returns-clause-above : goal.returns-clause-above
returns-clause-above c = floor_above

pub returns-clause-one : goal.returns-clause-one
returns-clause-one c = floor_one
