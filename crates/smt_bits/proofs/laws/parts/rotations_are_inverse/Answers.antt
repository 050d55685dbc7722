use Rattle.smt_bits.proofs.PartLemmas.{left_back, right_back}
use Rattle.smt_bits.proofs.laws.parts.rotations_are_inverse.Goals as goal

pub returns-clause-left : goal.returns-clause-left
returns-clause-left c = left_back

pub returns-clause-right : goal.returns-clause-right
returns-clause-right c = right_back
