use Rattle.std.proofs.Common.{ℤ, pos, neg_ℤ, ◌+ℤ◌, ◌-ℤ◌, ◌*ℤ◌, subst, sym}
use Rattle.std.specs.Prelude.{int_div}
use Rattle.smt_bits.specs.BitVector.{modulo, signed}
use Rattle.smt_bits.specs.Operators.{bvadd, bvmul, bvneg, bvsdiv, bvsub, overflows_signed}
use Rattle.smt_bits.specs.Readings.{IsModulo}
use Rattle.smt_values.proofs.OverflowLemmas.{OneToOne, divided_wraps, of_difference, of_negative, of_product, of_sum}
use Rattle.smt_values.proofs.OverflowLemmas.{same_modulo, wraps, wraps_signed}
use Rattle.smt_values.proofs.laws.results_overflow_where_they_are_wrapped.Goals as goal

pub returns-clause-negate : goal.returns-clause-negate
returns-clause-negate c = λ z m s r some below e.
    let law = c.the_signed_reading_is_one_to_one.ensures in
    wraps_signed record { integer = law.integer; low = law.low; high = law.high; modulo_is = law.modulo }
    m (neg_ℤ (signed m s)) r some (of_negative m s r
    (same_modulo m (bvneg m s) r (neg_ℤ (pos s)) (c.results_are_modulo_powers_of_two.ensures.neg m s below) e))

pub returns-clause-add : goal.returns-clause-add
returns-clause-add c = λ z m s t r e. wraps m (pos s +ℤ pos t) r
    (same_modulo m (bvadd m s t) r (pos s +ℤ pos t) (c.results_are_modulo_powers_of_two.ensures.add m s t) e)

pub returns-clause-signed_add : goal.returns-clause-signed_add
returns-clause-signed_add c = λ z m s t r some e.
    let law = c.the_signed_reading_is_one_to_one.ensures in
    wraps_signed record { integer = law.integer; low = law.low; high = law.high; modulo_is = law.modulo }
    m (signed m s +ℤ signed m t) r some (of_sum m s t r
    (same_modulo m (bvadd m s t) r (pos s +ℤ pos t) (c.results_are_modulo_powers_of_two.ensures.add m s t) e))

pub returns-clause-multiply : goal.returns-clause-multiply
returns-clause-multiply c = λ z m s t r e. wraps m (pos s *ℤ pos t) r
    (same_modulo m (bvmul m s t) r (pos s *ℤ pos t) (c.results_are_modulo_powers_of_two.ensures.mul m s t) e)

pub returns-clause-signed_multiply : goal.returns-clause-signed_multiply
returns-clause-signed_multiply c = λ z m s t r some e.
    let law = c.the_signed_reading_is_one_to_one.ensures in
    wraps_signed record { integer = law.integer; low = law.low; high = law.high; modulo_is = law.modulo }
    m (signed m s *ℤ signed m t) r some (of_product m s t r
    (same_modulo m (bvmul m s t) r (pos s *ℤ pos t) (c.results_are_modulo_powers_of_two.ensures.mul m s t) e))

pub returns-clause-subtract : goal.returns-clause-subtract
returns-clause-subtract c = λ z m s t r low below e. wraps m (pos s -ℤ pos t) r
    (same_modulo m (bvsub m s t) r (pos s -ℤ pos t)
    (c.results_are_modulo_powers_of_two.ensures.sub m s t low below) e)

pub returns-clause-signed_subtract : goal.returns-clause-signed_subtract
returns-clause-signed_subtract c = λ z m s t r some low below e.
    let law = c.the_signed_reading_is_one_to_one.ensures in
    wraps_signed record { integer = law.integer; low = law.low; high = law.high; modulo_is = law.modulo }
    m (signed m s -ℤ signed m t) r some (of_difference m s t r
    (same_modulo m (bvsub m s t) r (pos s -ℤ pos t)
    (c.results_are_modulo_powers_of_two.ensures.sub m s t low below) e))

pub returns-clause-signed_divide : goal.returns-clause-signed_divide
returns-clause-signed_divide c = λ z m s t r some other e.
    let law = c.the_signed_reading_is_one_to_one.ensures in
    let quotient = int_div (signed m s) (signed m t) in
    divided_wraps m s t r other (wraps_signed
    record { integer = law.integer; low = law.low; high = law.high; modulo_is = law.modulo } m quotient r some
    (same_modulo m (bvsdiv m s t) r quotient (subst (IsModulo m quotient)
    (sym (c.signed_division_is_by_the_law.ensures.quotient m s t other)) (law.modulo m quotient)) e))
