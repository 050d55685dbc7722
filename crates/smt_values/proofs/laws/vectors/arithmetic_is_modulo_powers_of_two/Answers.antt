use Rattle.std.proofs.Common.{pos, neg_ℤ, ◌+ℤ◌, ◌-ℤ◌, ◌*ℤ◌, ◌^◌}
use Rattle.smt_bits.specs.Operators.{bvadd, bvmul, bvneg, bvshl, bvsub}
use Rattle.smt_values.proofs.ReadingLemmas.{modulo_only}
use Rattle.smt_values.proofs.laws.vectors.arithmetic_is_modulo_powers_of_two.Goals as goal

pub returns-clause-add : goal.returns-clause-add
returns-clause-add c = λ z m s t r.
    modulo_only m (bvadd m s t) r (pos s +ℤ pos t) (c.results_are_modulo_powers_of_two.ensures.add m s t)

pub returns-clause-multiply : goal.returns-clause-multiply
returns-clause-multiply c = λ z m s t r.
    modulo_only m (bvmul m s t) r (pos s *ℤ pos t) (c.results_are_modulo_powers_of_two.ensures.mul m s t)

pub returns-clause-subtract : goal.returns-clause-subtract
returns-clause-subtract c = λ z m s t r fits below.
    modulo_only m (bvsub m s t) r (pos s -ℤ pos t)
    (c.results_are_modulo_powers_of_two.ensures.sub m s t fits below)

pub returns-clause-negate : goal.returns-clause-negate
returns-clause-negate c = λ z m s r below.
    modulo_only m (bvneg m s) r (neg_ℤ (pos s)) (c.results_are_modulo_powers_of_two.ensures.neg m s below)

pub returns-clause-shift_left : goal.returns-clause-shift_left
returns-clause-shift_left c = λ z m s t r.
    modulo_only m (bvshl m s t) r (pos s *ℤ pos (2 ^ t)) (c.results_are_modulo_powers_of_two.ensures.shl m s t)
