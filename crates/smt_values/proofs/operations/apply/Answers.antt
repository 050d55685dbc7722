use Rattle.std.proofs.Common.{rules}
use Rattle.smt_values.proofs.operations.apply.Goals as goal

pub returns-in-Core : goal.returns-in-Core
returns-in-Core c = search rules
