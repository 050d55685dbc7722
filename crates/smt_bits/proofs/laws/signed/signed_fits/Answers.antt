use Rattle.smt_bits.proofs.SignedLawLemmas.{bvsdiv_below, bvsmod_below, bvsrem_below}
use Rattle.smt_bits.proofs.laws.signed.signed_fits.Goals as goal

pub returns-clause-bvsdiv : goal.returns-clause-bvsdiv
returns-clause-bvsdiv c = bvsdiv_below

pub returns-clause-bvsrem : goal.returns-clause-bvsrem
returns-clause-bvsrem c = bvsrem_below

pub returns-clause-bvsmod : goal.returns-clause-bvsmod
returns-clause-bvsmod c = bvsmod_below
