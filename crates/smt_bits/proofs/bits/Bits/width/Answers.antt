use Rattle.std.proofs.Common.{rules}
use Rattle.smt_bits.proofs.bits.Bits.width.Goals as goal

pub returns : goal.returns
returns c = search rules
