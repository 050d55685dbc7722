use Rattle.std.proofs.Common.{rules}
use Rattle.smt_theory.proofs.width.Width.new.Goals as goal

pub invariant_of-result : goal.invariant_of-result
invariant_of-result c = search rules

pub returns-then-bits-le128 : goal.returns-then-bits-le128
returns-then-bits-le128 c = search rules
