use Rattle.std.proofs.Common.{rules}
use Rattle.smt_bits.proofs.bits.Bits.number.Goals as goal

pub returns-clause-value : goal.returns-clause-value
returns-clause-value c = search rules

pub returns-clause-below : goal.returns-clause-below
returns-clause-below c = search rules
