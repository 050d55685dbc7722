use Rattle.std.proofs.Common.{rules}
use Rattle.smt_script.proofs.stack.Stack.print_success.Goals as goal

pub returns : goal.returns
returns c = search rules
