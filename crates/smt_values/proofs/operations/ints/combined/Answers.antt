use Rattle.std.proofs.Common.{rules}
use Rattle.smt_values.proofs.operations.ints.combined.Goals as goal

pub returns-in-Div : goal.returns-in-Div
returns-in-Div c = search rules

pub returns-in-Plus : goal.returns-in-Plus
returns-in-Plus c = search rules
