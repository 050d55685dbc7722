use Rattle.std.proofs.Common.{arith}
use Rattle.std.proofs.lemmas.Grind.{common_steps}
use Rattle.smt_terms.proofs.library.Library.mark.Goals as goal

pub returns-clause-all : goal.returns-clause-all
returns-clause-all c = grind (arith, common_steps)

pub returns-clause-last : goal.returns-clause-last
returns-clause-last c = grind (arith, common_steps)
