use Rattle.smt_bits.proofs.SignedDivisionLemmas.{bvsdiv_by}
use Rattle.smt_bits.proofs.SignedLawLemmas.{bvsrem_at_least, bvsrem_at_most, bvsrem_signed, division_exact}
use Rattle.smt_bits.proofs.SignedLawLemmas.{rem_small}
use Rattle.smt_bits.proofs.RoundingLemmas.{quotient_whole}
use Rattle.smt_bits.proofs.laws.signed.signed_division_is_by_the_law.Goals as goal

pub returns-clause-exact : goal.returns-clause-exact
returns-clause-exact c = division_exact

pub returns-clause-quotient : goal.returns-clause-quotient
returns-clause-quotient c = bvsdiv_by

pub returns-clause-remainder : goal.returns-clause-remainder
returns-clause-remainder c = bvsrem_signed

pub returns-clause-small : goal.returns-clause-small
returns-clause-small c = rem_small

pub returns-clause-at_least_zero : goal.returns-clause-at_least_zero
returns-clause-at_least_zero c = bvsrem_at_least

pub returns-clause-at_most_zero : goal.returns-clause-at_most_zero
returns-clause-at_most_zero c = bvsrem_at_most

pub returns-clause-whole : goal.returns-clause-whole
returns-clause-whole c = quotient_whole
