use Rattle.smt_bits.proofs.PlaceLemmas.{sign_extend_at, sign_extend_sign, zero_extend_at, zero_extend_zeros}
use Rattle.smt_bits.proofs.laws.parts.extensions_keep_bits.Goals as goal

pub returns-clause-zero_extend : goal.returns-clause-zero_extend
returns-clause-zero_extend c = λ i k v w. zero_extend_at i v w k

pub returns-clause-zeros : goal.returns-clause-zeros
returns-clause-zeros c = λ i k v w. zero_extend_zeros i v w k

pub returns-clause-sign_extend : goal.returns-clause-sign_extend
returns-clause-sign_extend c = sign_extend_at

pub returns-clause-signs : goal.returns-clause-signs
returns-clause-signs c = sign_extend_sign
