use Rattle.std.proofs.Common.{rules}
use Rattle.smt_terms.proofs.library.Library.is_taken.Goals as goal

pub returns-then-has_entry : goal.returns-then-has_entry
returns-then-has_entry c = search rules

pub returns-else-has_entry : goal.returns-else-has_entry
returns-else-has_entry c = search rules
