use Rattle.std.proofs.Common.{rules}
use Rattle.smt_script.proofs.stack.Stack.new.Goals as goal

pub returns-clause-last : goal.returns-clause-last
returns-clause-last c = search rules
