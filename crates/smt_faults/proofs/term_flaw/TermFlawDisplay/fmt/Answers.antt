use Rattle.std.proofs.Common.{rules}
use Rattle.smt_faults.proofs.term_flaw.TermFlawDisplay.fmt.Goals as goal

pub returns-clause-writes : goal.returns-clause-writes
returns-clause-writes g c = search rules
