use Rattle.std.proofs.Common.{rules}
use Rattle.smt_terms.proofs.library.Library.declared.Goals as goal

pub returns : goal.returns
returns c = search rules
