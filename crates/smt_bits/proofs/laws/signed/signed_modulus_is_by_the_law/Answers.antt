use Rattle.smt_bits.proofs.SignedLawLemmas.{bvsmod_at_least, bvsmod_at_most, bvsmod_exact, bvsmod_small}
use Rattle.smt_bits.proofs.RoundingLemmas.{modulus_whole}
use Rattle.smt_bits.proofs.laws.signed.signed_modulus_is_by_the_law.Goals as goal

pub returns-clause-exact : goal.returns-clause-exact
returns-clause-exact c = bvsmod_exact

pub returns-clause-small : goal.returns-clause-small
returns-clause-small c = bvsmod_small

pub returns-clause-at_least_zero : goal.returns-clause-at_least_zero
returns-clause-at_least_zero c = bvsmod_at_least

pub returns-clause-at_most_zero : goal.returns-clause-at_most_zero
returns-clause-at_most_zero c = bvsmod_at_most

pub returns-clause-whole : goal.returns-clause-whole
returns-clause-whole c = modulus_whole
