use Rattle.smt_values.proofs.ReasonLemmas.{reason_argument, reason_range, reason_zero}
use Rattle.smt_values.proofs.laws.reasons.open_reasons_hold.Goals as goal

pub returns-clause-argument : goal.returns-clause-argument
returns-clause-argument c = reason_argument

pub returns-clause-zero : goal.returns-clause-zero
returns-clause-zero c = reason_zero

pub returns-clause-range : goal.returns-clause-range
returns-clause-range c = reason_range
