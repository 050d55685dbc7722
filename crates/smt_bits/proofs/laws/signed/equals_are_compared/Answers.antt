use Rattle.smt_bits.proofs.SignedLawLemmas.{compared}
use Rattle.smt_bits.proofs.laws.signed.equals_are_compared.Goals as goal

pub returns-clause-set : goal.returns-clause-set
returns-clause-set c = compared
