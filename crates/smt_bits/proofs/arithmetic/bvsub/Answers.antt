use Rattle.std.proofs.Common.{rules, ◌≡◌, ◌^◌, ◌<◌, ◌≤◌, subst}
use Rattle.smt_bits.proofs.ArithmeticLemmas.{difference}
use Rattle.smt_bits.proofs.arithmetic.bvsub.Goals as goal

pub returns : goal.returns
returns c =
    let within : c.width.result ≤ 128 = search rules in
    let same : c.args.t.width ≡ c.width.result = cc in
    let below = subst (λ m. c.number-2.result < 2 ^ m) same c.number-2.ensures.below in
    let number = difference c.width.result c.number.result c.number-2.result within below in
    cc
