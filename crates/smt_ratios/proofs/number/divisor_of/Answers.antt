use Rattle.std.proofs.Common.{◌≡◌, ◌∙◌, ap, pos, unsigned_abs, arith}
use Rattle.std.proofs.lemmas.Int.{fits_signed_from_abs, to_z-of_z, to_z_pos, ints}
use mir.Syntax.{w128}
use Rattle.smt_ratios.specs.Rational.{gcd}
use Rattle.smt_ratios.proofs.RatioLemmas.{divisor_below, divisor_over}
use Rattle.smt_ratios.proofs.number.divisor_of.Goals as goal

found : (c : goal.After-greatest_common_divisor)
    → c.greatest_common_divisor.result ≡ gcd (unsigned_abs c.args.n) (unsigned_abs c.args.d)
found c =
    c.greatest_common_divisor.ensures
    ∙ ap (λ x. gcd x c.unsigned_abs-2.result)
    (c.unsigned_abs.ensures.value ∙ ap unsigned_abs (to_z-of_z w128 c.args.n c.ranges.n))
    ∙ ap (λ x. gcd (unsigned_abs c.args.n) x)
    (c.unsigned_abs-2.ensures.value ∙ ap unsigned_abs (to_z-of_z w128 c.args.d c.ranges.d))

pub overflow_cast-result : goal.overflow_cast-result
overflow_cast-result c =
    fits_signed_from_abs w128 _ (divisor_below c.args.n c.args.d _ c.requires c.ranges.d (found c))

pub returns-clause-value : goal.returns-clause-value
returns-clause-value c =
    to_z_pos w128 _ (divisor_below c.args.n c.args.d _ c.requires c.ranges.d (found c)) ∙ ap pos (found c)

pub returns-clause-over_zero : goal.returns-clause-over_zero
returns-clause-over_zero c =
    let e = found c in
    let low = divisor_below c.args.n c.args.d _ c.requires c.ranges.d (found c) in
    let over = divisor_over c.args.n c.args.d c.requires in
    omega (arith, ints)
