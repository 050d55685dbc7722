use Rattle.std.proofs.Common.{rules}
use Rattle.smt_faults.proofs.command_fault.CommandFaultFromTermFault.from.Goals as goal

pub returns-in_default : goal.returns-in_default
returns-in_default c = search rules
