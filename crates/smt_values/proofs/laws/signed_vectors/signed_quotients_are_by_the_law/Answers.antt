use Rattle.smt_bits.specs.BitVector.{signed}
use Rattle.smt_bits.specs.Operators.{bvsdiv, bvsmod, bvsrem}
use Rattle.smt_values.proofs.RoundingLemmas.{modulus_only, quotient_only, remainder_only}
use Rattle.smt_values.proofs.laws.signed_vectors.signed_quotients_are_by_the_law.Goals as goal

pub returns-clause-quotient : goal.returns-clause-quotient
returns-clause-quotient c = λ z m s t x wide small below some.
    let law = c.signed_division_is_by_the_law.ensures.whole m s t wide small below some in
    quotient_only m (bvsdiv m s t) x (signed m s) (signed m t) (law.0, signed m (bvsrem m s t), law.1, law.2)

pub returns-clause-remainder : goal.returns-clause-remainder
returns-clause-remainder c = λ z m s t x wide small below some.
    let law = c.signed_division_is_by_the_law.ensures.whole m s t wide small below some in
    remainder_only m (bvsrem m s t) x (signed m s) (signed m t)
    (λ n. c.the_signed_reading_is_one_to_one.ensures.number m n)
    (law.0, c.signed_fits.ensures.bvsrem m s t small, law.1)

pub returns-clause-modulus : goal.returns-clause-modulus
returns-clause-modulus c = λ z m s t x wide small below some.
    let law = c.signed_modulus_is_by_the_law.ensures.whole m s t wide small below some in
    modulus_only m (bvsmod m s t) x (signed m s) (signed m t)
    (λ n. c.the_signed_reading_is_one_to_one.ensures.number m n)
    (law.0, c.signed_fits.ensures.bvsmod m s t small, law.1)
