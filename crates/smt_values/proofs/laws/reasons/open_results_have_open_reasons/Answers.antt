use Rattle.smt_values.proofs.ReasonLemmas.{reason_open, reason_told}
use Rattle.smt_values.proofs.laws.reasons.open_results_have_open_reasons.Goals as goal

pub returns-clause-open : goal.returns-clause-open
returns-clause-open c = reason_open

pub returns-clause-told : goal.returns-clause-told
returns-clause-told c = reason_told
