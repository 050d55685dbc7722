use Rattle.std.proofs.Common.{rules}
use Rattle.smt_forms.proofs.identifier.indexed_identifier.Goals as goal

pub returns : goal.returns
returns c = search rules

pub returns-then-is_none : goal.returns-then-is_none
returns-then-is_none c = search rules

pub returns-in_err-indexes : goal.returns-in_err-indexes
returns-in_err-indexes c = search rules
