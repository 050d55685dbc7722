use Rattle.std.proofs.Common.{rules}
use Rattle.smt_terms.proofs.library.Library.is_in_use.Goals as goal

pub returns-then-is_taken : goal.returns-then-is_taken
returns-then-is_taken c = search rules

pub returns-else-is_taken : goal.returns-else-is_taken
returns-else-is_taken c = search rules
