use Rattle.std.proofs.Common.{rules}
use Rattle.smt_terms.proofs.library.Library.definitions.Goals as goal

pub returns-clause-stands : goal.returns-clause-stands
returns-clause-stands c = search rules

pub returns-clause-view : goal.returns-clause-view
returns-clause-view c = search rules
