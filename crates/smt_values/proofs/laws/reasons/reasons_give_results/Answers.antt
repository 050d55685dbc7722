use Rattle.smt_values.proofs.ReasonLemmas.{reason_branch, reason_decided}
use Rattle.smt_values.proofs.laws.reasons.reasons_give_results.Goals as goal

pub returns-clause-decided : goal.returns-clause-decided
returns-clause-decided c = reason_decided

pub returns-clause-branch : goal.returns-clause-branch
returns-clause-branch c = reason_branch
