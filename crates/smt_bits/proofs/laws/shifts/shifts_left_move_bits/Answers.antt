use Rattle.smt_bits.proofs.PlaceLemmas.{shl_at, shl_zeros}
use Rattle.smt_bits.proofs.laws.shifts.shifts_left_move_bits.Goals as goal

pub returns-clause-moved : goal.returns-clause-moved
returns-clause-moved c = shl_at

pub returns-clause-zeros : goal.returns-clause-zeros
returns-clause-zeros c = shl_zeros
