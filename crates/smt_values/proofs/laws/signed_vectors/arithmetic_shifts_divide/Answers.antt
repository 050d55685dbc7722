use Rattle.std.proofs.Common.{◌^◌, pow_pos}
use Rattle.smt_bits.specs.BitVector.{signed}
use Rattle.smt_bits.specs.Operators.{bvashr}
use Rattle.smt_values.proofs.RoundingLemmas.{shifted_only}
use Rattle.smt_values.proofs.laws.signed_vectors.arithmetic_shifts_divide.Goals as goal

pub returns : goal.returns
returns c = λ z m s t x wide below.
    let law = c.arithmetic_shifts_round_down.ensures in
    shifted_only m (bvashr m s t) x (2 ^ t) (signed m s) (pow_pos t)
    (λ n. c.the_signed_reading_is_one_to_one.ensures.number m n)
    (c.shifts_fit.ensures.ashr m s t, law.low m s t wide below, law.high m s t wide below)
