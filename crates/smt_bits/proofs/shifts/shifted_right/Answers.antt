use Rattle.smt_bits.proofs.ShiftLemmas.{shr_past}
use Rattle.smt_bits.proofs.shifts.shifted_right.Goals as goal

pub returns-else-t-lt128 : goal.returns-else-t-lt128
returns-else-t-lt128 c = shr_past c.args.n c.args.t c.ranges.n.fits c.if-t-lt128.false
