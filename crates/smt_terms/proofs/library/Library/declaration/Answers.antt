use Rattle.std.proofs.Common.{rules}
use Rattle.smt_terms.proofs.library.Library.declaration.Goals as goal

pub returns-in_err-result-clause-rank : goal.returns-in_err-result-clause-rank
returns-in_err-result-clause-rank c = search rules

pub returns-clause-rank : goal.returns-clause-rank
returns-clause-rank c = search rules
