use Rattle.std.proofs.Common.{rules}
use Rattle.smt_forms.proofs.identifier.applied_identifier.Goals as goal

pub returns-in-Symbol : goal.returns-in-Symbol
returns-in-Symbol c = search rules

pub returns-in-List : goal.returns-in-List
returns-in-List c = search rules

pub returns-in_default : goal.returns-in_default
returns-in_default c = search rules
