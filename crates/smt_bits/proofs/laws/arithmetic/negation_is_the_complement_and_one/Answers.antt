use Rattle.std.proofs.Common.{◌%◌, ◌^◌, ap, sym}
use Rattle.smt_bits.proofs.BitwiseLemmas.{complement_is}
use Rattle.smt_bits.proofs.laws.arithmetic.negation_is_the_complement_and_one.Goals as goal

pub returns : goal.returns
returns c = λ m s below. ap (λ n. n % 2 ^ m) (sym (complement_is m s below))
