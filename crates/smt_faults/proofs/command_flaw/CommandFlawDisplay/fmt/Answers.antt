use Rattle.std.proofs.Common.{rules}
use Rattle.smt_faults.proofs.command_flaw.CommandFlawDisplay.fmt.Goals as goal

pub returns-in-Term-clause-writes : goal.returns-in-Term-clause-writes
returns-in-Term-clause-writes g c = search rules
