use Rattle.std.proofs.Common.{rules}
use Rattle.smt_forms.proofs.identifier.Identifier.operator.Goals as goal

pub returns-in-Plain : goal.returns-in-Plain
returns-in-Plain c = search rules

pub returns-in-Indexed : goal.returns-in-Indexed
returns-in-Indexed c = search rules
