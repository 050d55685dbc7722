use Rattle.std.proofs.Common.{rules}
use Rattle.smt_report.proofs.line.Line.is_fault.Goals as goal

pub returns-in_default : goal.returns-in_default
returns-in_default c = search rules
