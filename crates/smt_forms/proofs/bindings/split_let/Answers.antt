use Rattle.std.proofs.Common.{rules}
use Rattle.smt_forms.proofs.bindings.split_let.Goals as goal

pub returns : goal.returns
returns c = search rules

pub returns-then-is_some : goal.returns-then-is_some
returns-then-is_some c = search rules
