use Rattle.std.proofs.Common.{rules}
use Rattle.smt_bits.proofs.parts.rotate_left.Goals as goal

pub returns : goal.returns
returns c = search rules
