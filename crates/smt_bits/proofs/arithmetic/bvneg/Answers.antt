use Rattle.std.proofs.Common.{rules, ◌^◌, ◌<◌, ◌≤◌, subst, sym}
use Rattle.smt_bits.proofs.ArithmeticLemmas.{negation}
use Rattle.smt_bits.proofs.arithmetic.bvneg.Goals as goal

pub returns : goal.returns
returns c =
    let within : c.width.result ≤ 128 = search rules in
    let below = subst (λ m. c.number.result < 2 ^ m) (sym c.width.ensures) c.number.ensures.below in
    let number = negation c.width.result c.wrapping_neg.result c.number.result within below
    c.wrapping_neg.ensures in
    cc
