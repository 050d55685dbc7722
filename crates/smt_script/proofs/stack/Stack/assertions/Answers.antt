use Rattle.std.proofs.Common.{rules}
use Rattle.smt_script.proofs.stack.Stack.assertions.Goals as goal

pub returns : goal.returns
returns c = search rules
