use Rattle.smt_bits.proofs.BitwiseLemmas.{bits_below, bits_same}
use Rattle.smt_bits.proofs.laws.bitwise.bits_are_as_given.Goals as goal

pub returns-clause-same : goal.returns-clause-same
returns-clause-same c = bits_same

pub returns-clause-below : goal.returns-clause-below
returns-clause-below c = bits_below
