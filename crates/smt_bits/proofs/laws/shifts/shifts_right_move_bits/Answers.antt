use Rattle.smt_bits.proofs.PlaceLemmas.{lshr_at, lshr_zeros}
use Rattle.smt_bits.proofs.laws.shifts.shifts_right_move_bits.Goals as goal

pub returns-clause-moved : goal.returns-clause-moved
returns-clause-moved c = lshr_at

pub returns-clause-zeros : goal.returns-clause-zeros
returns-clause-zeros c = lshr_zeros
