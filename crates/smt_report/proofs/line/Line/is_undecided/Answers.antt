use Rattle.std.proofs.Common.{rules}
use Rattle.smt_report.proofs.line.Line.is_undecided.Goals as goal

pub returns-in_default : goal.returns-in_default
returns-in_default c = search rules

pub returns-in-NoModel-2 : goal.returns-in-NoModel-2
returns-in-NoModel-2 c = search rules
