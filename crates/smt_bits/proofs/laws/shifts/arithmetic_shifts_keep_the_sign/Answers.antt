use Rattle.smt_bits.proofs.PlaceLemmas.{ashr_at, ashr_ones, ashr_sign, ashr_zeros}
use Rattle.smt_bits.proofs.laws.shifts.arithmetic_shifts_keep_the_sign.Goals as goal

pub returns-clause-moved : goal.returns-clause-moved
returns-clause-moved c = ashr_at

pub returns-clause-signs : goal.returns-clause-signs
returns-clause-signs c = ashr_sign

pub returns-clause-all_zeros : goal.returns-clause-all_zeros
returns-clause-all_zeros c = ashr_zeros

pub returns-clause-all_ones : goal.returns-clause-all_ones
returns-clause-all_ones c = ashr_ones
