use Rattle.std.proofs.Common.{rules}
use Rattle.smt_bits.proofs.parts.rotate_right.Goals as goal

pub returns : goal.returns
returns c = search rules
