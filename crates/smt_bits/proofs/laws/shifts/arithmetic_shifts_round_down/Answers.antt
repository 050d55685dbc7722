use Rattle.smt_bits.proofs.RoundingLemmas.{shift_rounds_down}
use Rattle.smt_bits.proofs.laws.shifts.arithmetic_shifts_round_down.Goals as goal

pub returns-clause-low : goal.returns-clause-low
returns-clause-low c = λ m s t wide below. (shift_rounds_down m s t wide below).0

pub returns-clause-high : goal.returns-clause-high
returns-clause-high c = λ m s t wide below. (shift_rounds_down m s t wide below).1
