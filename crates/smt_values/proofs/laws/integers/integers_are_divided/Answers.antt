use Rattle.std.proofs.Common.{◌≡◌, ℤ, pos, ◌+ℤ◌, ◌*ℤ◌, ◌≤ℤ◌, ◌<ℤ◌, unsigned_abs}
use Rattle.smt_values.specs.Operations.{quotient, remainder}
use Rattle.smt_values.proofs.IntegerLemmas.{only}
use Rattle.smt_values.proofs.laws.integers.integers_are_divided.Goals as goal

pub returns-clause-quotient : goal.returns-clause-quotient
returns-clause-quotient c = λ z a n q some.
    let law = c.division_is_by_the_law.ensures in
    only (λ x. (r : ℤ) × (a ≡ n *ℤ x +ℤ r) × (pos 0 ≤ℤ r) × (r <ℤ pos (unsigned_abs n))) (quotient z a n) q
    (remainder z a n, law.exact z a n some, law.low z a n some, law.high z a n some)
    (λ h. (law.one z a n q h.0 some h.1 h.2 h.3).0)

pub returns-clause-remainder : goal.returns-clause-remainder
returns-clause-remainder c = λ z a n r some.
    let law = c.division_is_by_the_law.ensures in
    only (λ x. (q : ℤ) × (a ≡ n *ℤ q +ℤ x) × (pos 0 ≤ℤ x) × (x <ℤ pos (unsigned_abs n))) (remainder z a n) r
    (quotient z a n, law.exact z a n some, law.low z a n some, law.high z a n some)
    (λ h. (law.one z a n h.0 r some h.1 h.2 h.3).1)
