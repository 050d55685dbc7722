use Rattle.smt_values.proofs.DivisionLemmas.{quotient_free, remainder_free}
use Rattle.smt_values.proofs.RationalLemmas.{ratio_free}
use Rattle.smt_values.proofs.laws.division_by_zero_is_free.Goals as goal

pub returns-clause-quotient : goal.returns-clause-quotient
returns-clause-quotient c = quotient_free

pub returns-clause-remainder : goal.returns-clause-remainder
returns-clause-remainder c = remainder_free

pub returns-clause-ratio : goal.returns-clause-ratio
returns-clause-ratio c = ratio_free c.numbers_are_their_terms.ensures.number c.equal_numbers_are_one.ensures.one
    c.equal_numbers_are_one.ensures.equal
