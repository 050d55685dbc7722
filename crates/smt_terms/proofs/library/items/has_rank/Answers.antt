use Rattle.std.proofs.Common.{rules}
use Rattle.smt_terms.proofs.library.items.has_rank.Goals as goal

pub returns-then-are_same : goal.returns-then-are_same
returns-then-are_same c = search rules

pub returns-else-are_same : goal.returns-else-are_same
returns-else-are_same c = search rules
