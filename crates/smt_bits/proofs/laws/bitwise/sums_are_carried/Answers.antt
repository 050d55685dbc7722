use Rattle.smt_bits.proofs.BitLawLemmas.{sum_is}
use Rattle.smt_bits.proofs.laws.bitwise.sums_are_carried.Goals as goal

pub returns : goal.returns
returns c = sum_is
