use Rattle.std.proofs.Common.{◌≡◌, FitsSigned, ◌*ℤ◌, rules}
use Rattle.std.specs.Int.{w128}
use Rattle.smt_ratios.specs.Known.{within}
use Rattle.smt_ratios.proofs.KnownLemmas.{product_positive, some_positive}
use Rattle.smt_ratios.proofs.arithmetic.denominator_of.Goals as goal

pub returns-clause-positive : goal.returns-clause-positive
returns-clause-positive c =
    let d : FitsSigned w128 c.args.d = c.ranges.d in
    let e : FitsSigned w128 c.args.e = c.ranges.e in
    let value : c.checked_mul.result ≡ within (c.args.d *ℤ c.args.e) = search rules in
    some_positive c.checked_mul.result (c.args.d *ℤ c.args.e) value (product_positive c.args.d c.args.e c.requires.first c.requires.second)
