use Rattle.std.proofs.Common.{refl}
use Rattle.smt_eval.proofs.CostExampleLemmas.{doubling_costs}
use Rattle.smt_eval.proofs.laws.some_costs_are_told_in_numbers.Goals as goal

pub returns-clause-sum : goal.returns-clause-sum
returns-clause-sum c = refl

pub returns-clause-annotated : goal.returns-clause-annotated
returns-clause-annotated c = refl

pub returns-clause-doubling : goal.returns-clause-doubling
returns-clause-doubling c = doubling_costs
