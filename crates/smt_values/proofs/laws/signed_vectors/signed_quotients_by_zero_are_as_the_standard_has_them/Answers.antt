use Rattle.std.proofs.Common.{◌≡◌, ◌^◌, ap, sym, subst, ◌+◌, ◌↔◌, ◌∙◌}
use Rattle.smt_bits.specs.BitVector.{vector}
use Rattle.smt_values.proofs.RoundingLemmas.{opposite_of_one}
use Rattle.smt_values.proofs.ReadingLemmas.{all_ones_only}
use Rattle.smt_values.specs.Element.{Vector}
use Rattle.smt_values.proofs.laws.signed_vectors.signed_quotients_by_zero_are_as_the_standard_has_them.Goals as goal

pub returns-clause-negative : goal.returns-clause-negative
returns-clause-negative c = λ z m s below.
    ap (λ n. Vector (vector m n)) (c.division_by_zero_is_as_the_standard_has_it.ensures.negative m s below)

pub returns-clause-positive : goal.returns-clause-positive
returns-clause-positive c = λ z m s x fits low.
    let is = c.division_by_zero_is_as_the_standard_has_it.ensures.positive m s fits low in
    subst (λ n. (Vector (vector m n) ≡ Vector (vector m x)) ↔ (x + 1 ≡ 2 ^ m)) (sym (is ∙ opposite_of_one m))
    (all_ones_only m x)
