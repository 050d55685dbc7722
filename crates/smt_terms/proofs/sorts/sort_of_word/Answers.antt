use Rattle.std.proofs.Common.{rules}
use Rattle.smt_terms.proofs.sorts.sort_of_word.Goals as goal

pub returns-then-is_named : goal.returns-then-is_named
returns-then-is_named c = search rules

pub returns-then-is_named-2 : goal.returns-then-is_named-2
returns-then-is_named-2 c = search rules

pub returns-then-is_named-4 : goal.returns-then-is_named-4
returns-then-is_named-4 c = search rules

pub returns-else-is_named-4 : goal.returns-else-is_named-4
returns-else-is_named-4 c = search rules

pub returns-then-is_named-3 : goal.returns-then-is_named-3
returns-then-is_named-3 c = search rules
