use Rattle.smt_bits.proofs.ShiftLemmas.{shl_past}
use Rattle.smt_bits.proofs.shifts.shifted_left.Goals as goal

pub returns-else-t-lt128 : goal.returns-else-t-lt128
returns-else-t-lt128 c = shl_past c.args.n c.args.t c.if-t-lt128.false
