use Rattle.std.proofs.Common.{rules}
use Rattle.smt_script.proofs.stack.Stack.exited.Goals as goal

pub returns : goal.returns
returns c = search rules
