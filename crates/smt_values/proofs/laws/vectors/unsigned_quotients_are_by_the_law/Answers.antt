use Rattle.std.proofs.Common.{◌≡◌, ℕ, ◌+◌, ◌*◌, ◌<◌}
use Rattle.smt_bits.specs.Operators.{bvudiv, bvurem}
use Rattle.smt_values.proofs.ReadingLemmas.{all_ones_only, only, shift_right_only}
use Rattle.smt_values.proofs.laws.vectors.unsigned_quotients_are_by_the_law.Goals as goal

pub returns-clause-quotient : goal.returns-clause-quotient
returns-clause-quotient c = λ z m s t q some.
    let law = c.unsigned_division_is_by_the_law.ensures in
    only m (λ x. (r : ℕ) × (s ≡ x * t + r) × (r < t)) (bvudiv m s t) q
    (bvurem m s t, law.exact m s t some, law.high m s t some) (λ h. (law.one m s t q h.0 h.1 h.2).0)

pub returns-clause-remainder : goal.returns-clause-remainder
returns-clause-remainder c = λ z m s t r some.
    let law = c.unsigned_division_is_by_the_law.ensures in
    only m (λ x. (q : ℕ) × (s ≡ q * t + x) × (x < t)) (bvurem m s t) r
    (bvudiv m s t, law.exact m s t some, law.high m s t some) (λ h. (law.one m s t h.0 r h.1 h.2).1)

pub returns-clause-quotient_by_zero : goal.returns-clause-quotient_by_zero
returns-clause-quotient_by_zero c = λ z m s. all_ones_only m

pub returns-clause-shift_right : goal.returns-clause-shift_right
returns-clause-shift_right c = λ z. shift_right_only
