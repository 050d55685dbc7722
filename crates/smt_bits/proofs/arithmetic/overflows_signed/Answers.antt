use Rattle.std.proofs.Common.{◌≤◌, ℤ, FitsSigned, subst, rules}
use Rattle.std.specs.Int.{w128}
use Rattle.std.specs.Option.{SomeIff}
use Rattle.smt_bits.proofs.OverflowLemmas.{outside_signed}
use Rattle.smt_bits.proofs.arithmetic.overflows_signed.Goals as goal

pub returns-in-None : goal.returns-in-None
returns-in-None c z h =
    let within : c.args.width ≤ 128 = search rules in
    outside_signed c.args.width z within (subst (λ o. SomeIff o (FitsSigned w128 z) z) c.in-None.is h)
