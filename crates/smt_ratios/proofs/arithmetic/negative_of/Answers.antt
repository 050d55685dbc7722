use Rattle.std.proofs.Common.{◌≡◌, ◌∙◌, FitsSigned, ap, sym, neg_ℤ, Some, None, unsigned_abs, rules}
use Rattle.std.specs.Int.{w128}
use Rattle.std.proofs.lemmas.Int.{to_z-of_z}
use Rattle.smt_ratios.specs.Known.{held, within}
use Rattle.smt_ratios.specs.Rational.{ratio}
use Rattle.smt_ratios.specs.View.{known_rational}
use Rattle.smt_ratios.proofs.KnownLemmas.{one_done, stop}
use Rattle.smt_ratios.proofs.arithmetic.negative_of.Goals as goal

pub returns-in_err-numerator : goal.returns-in_err-numerator
returns-in_err-numerator c =
    let n : FitsSigned w128 c.args.n = c.ranges.n in
    let p : within (neg_ℤ c.args.n) ≡ None = simp to_z-of_z at (sym c.negated.ensures ∙ c.in_err-numerator.was) in
    ap known_rational c.from_residual.ensures ∙ sym (stop _ _ _ p)

pub returns : goal.returns
returns c =
    let n : FitsSigned w128 c.args.n = c.ranges.n in
    let d : FitsSigned w128 c.args.d = c.ranges.d in
    let top : FitsSigned w128 c.in_ok-numerator.numerator = search rules in
    let p : within (neg_ℤ c.args.n) ≡ Some c.in_ok-numerator.numerator =
    simp to_z-of_z at (sym c.negated.ensures ∙ c.in_ok-numerator.was) in
    let made : known_rational c.lowest.result ≡ held (ratio c.in_ok-numerator.numerator (unsigned_abs c.args.d)) =
    simp to_z-of_z at c.lowest.ensures in
    made ∙ one_done _ _ c.args.d p
