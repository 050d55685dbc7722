use Rattle.smt_values.proofs.IntegerLemmas.{minus_only, negative_only, plus_more, times_more}
use Rattle.smt_values.proofs.laws.integers.integers_are_calculated.Goals as goal

pub returns-clause-plus_more : goal.returns-clause-plus_more
returns-clause-plus_more c = λ z. plus_more

pub returns-clause-minus : goal.returns-clause-minus
returns-clause-minus c = λ z. minus_only

pub returns-clause-negative : goal.returns-clause-negative
returns-clause-negative c = λ z. negative_only

pub returns-clause-times_more : goal.returns-clause-times_more
returns-clause-times_more c = λ z. times_more
