use Rattle.std.proofs.Common.{rules}
use Rattle.smt_terms.proofs.sorts.numeral_width.Goals as goal

pub returns-in_err-bits : goal.returns-in_err-bits
returns-in_err-bits c = search rules

pub returns-then-bits-le128 : goal.returns-then-bits-le128
returns-then-bits-le128 c = search rules

pub returns-else-bits-le128 : goal.returns-else-bits-le128
returns-else-bits-le128 c = search rules
