use Rattle.std.proofs.Common.{rules}
use Rattle.smt_script.proofs.forms.command_with.Goals as goal

pub returns-in-CheckSat : goal.returns-in-CheckSat
returns-in-CheckSat c = search rules
