use Rattle.smt_bits.proofs.RoundingLemmas.{modulo_is}
use Rattle.smt_bits.proofs.SignedLawLemmas.{integer_back, signed_at_least, signed_at_most}
use Rattle.smt_bits.proofs.SignedReadingLemmas.{modulo_signed}
use Rattle.smt_bits.proofs.laws.signed.the_signed_reading_is_one_to_one.Goals as goal

pub returns-clause-number : goal.returns-clause-number
returns-clause-number c = modulo_signed

pub returns-clause-integer : goal.returns-clause-integer
returns-clause-integer c = integer_back

pub returns-clause-low : goal.returns-clause-low
returns-clause-low c = signed_at_least

pub returns-clause-high : goal.returns-clause-high
returns-clause-high c = signed_at_most

pub returns-clause-modulo : goal.returns-clause-modulo
returns-clause-modulo c = modulo_is
