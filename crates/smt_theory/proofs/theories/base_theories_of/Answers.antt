use Rattle.std.proofs.Common.{rules}
use Rattle.smt_theory.proofs.theories.base_theories_of.Goals as goal

pub returns-else-is_named-2 : goal.returns-else-is_named-2
returns-else-is_named-2 c = search rules
