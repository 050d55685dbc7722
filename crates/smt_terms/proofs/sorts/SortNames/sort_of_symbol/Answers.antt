use Rattle.std.proofs.Common.{rules}
use Rattle.smt_terms.proofs.sorts.SortNames.sort_of_symbol.Goals as goal

pub returns-in-Some : goal.returns-in-Some
returns-in-Some c = search rules

pub returns-in-None : goal.returns-in-None
returns-in-None c = search rules
