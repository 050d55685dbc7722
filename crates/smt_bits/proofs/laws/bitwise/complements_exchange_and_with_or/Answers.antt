use Rattle.smt_bits.proofs.BitLawLemmas.{not_and, not_not, not_or}
use Rattle.smt_bits.proofs.laws.bitwise.complements_exchange_and_with_or.Goals as goal

pub returns-clause-and : goal.returns-clause-and
returns-clause-and c = not_and

pub returns-clause-or : goal.returns-clause-or
returns-clause-or c = not_or

pub returns-clause-twice : goal.returns-clause-twice
returns-clause-twice c = not_not
