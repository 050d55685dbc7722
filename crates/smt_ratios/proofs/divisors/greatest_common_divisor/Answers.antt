use Rattle.std.proofs.Common.{arith}
use Rattle.std.proofs.lemmas.Nat.Gcd.{IsGcd-from_zero, IsGcd-from_mod, same_from_IsGcd}
use Rattle.smt_ratios.proofs.DivisorLemmas.{gcd-IsGcd}
use Rattle.smt_ratios.proofs.divisors.greatest_common_divisor.Goals as goal

pub loop-y-preserved : goal.loop-y-preserved
loop-y-preserved c g h = c.loop-y.invariant g (IsGcd-from_mod _ _ g h)

pub returns : goal.returns
returns c = same_from_IsGcd _ _ _ _ (c.loop-y.invariant _ (IsGcd-from_zero _ _ (omega arith))) (gcd-IsGcd _ _)
