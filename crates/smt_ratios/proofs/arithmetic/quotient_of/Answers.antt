use Rattle.std.proofs.Common.{◌≡◌, ◌∙◌, FitsSigned, ap, sym, ◌*ℤ◌, Some, None, unsigned_abs, pos, rules}
use Rattle.std.specs.Int.{w128}
use Rattle.std.proofs.lemmas.Int.{to_z-of_z}
use Rattle.smt_ratios.specs.Known.{held, within}
use Rattle.smt_ratios.specs.Operators.{with_sign_of}
use Rattle.smt_ratios.specs.Rational.{ratio}
use Rattle.smt_ratios.specs.View.{known_rational}
use Rattle.smt_ratios.proofs.KnownLemmas.{step, stop, two_done}
use Rattle.smt_ratios.proofs.arithmetic.quotient_of.Goals as goal

pub returns-in_err-numerator : goal.returns-in_err-numerator
returns-in_err-numerator c =
    let n : FitsSigned w128 c.args.n = c.ranges.n in
    let m : FitsSigned w128 c.args.m = c.ranges.m in
    let d : FitsSigned w128 c.args.d = c.ranges.d in
    let e : FitsSigned w128 c.args.e = c.ranges.e in
    let sign : FitsSigned w128 c.with_sign_of.result = search rules in
    let signed : c.with_sign_of.result ≡ with_sign_of c.args.m (unsigned_abs c.args.e) =
    simp to_z-of_z at c.with_sign_of.ensures in
    let multiplied : c.times.result ≡ within (c.args.n *ℤ with_sign_of c.args.m (unsigned_abs c.args.e)) =
    simp to_z-of_z at c.times.ensures ∙ ap (λ z. within (c.args.n *ℤ z)) signed in
    let p : within (c.args.n *ℤ with_sign_of c.args.m (unsigned_abs c.args.e)) ≡ None = sym multiplied ∙ c.in_err-numerator.was in
    ap known_rational c.from_residual.ensures ∙ sym (stop _ _ _ p)

pub returns-in_err-denominator : goal.returns-in_err-denominator
returns-in_err-denominator c =
    let n : FitsSigned w128 c.args.n = c.ranges.n in
    let m : FitsSigned w128 c.args.m = c.ranges.m in
    let d : FitsSigned w128 c.args.d = c.ranges.d in
    let e : FitsSigned w128 c.args.e = c.ranges.e in
    let sign : FitsSigned w128 c.with_sign_of.result = search rules in
    let signed : c.with_sign_of.result ≡ with_sign_of c.args.m (unsigned_abs c.args.e) =
    simp to_z-of_z at c.with_sign_of.ensures in
    let multiplied : c.times.result ≡ within (c.args.n *ℤ with_sign_of c.args.m (unsigned_abs c.args.e)) =
    simp to_z-of_z at c.times.ensures ∙ ap (λ z. within (c.args.n *ℤ z)) signed in
    let p : within (c.args.n *ℤ with_sign_of c.args.m (unsigned_abs c.args.e)) ≡ Some c.in_ok-numerator.numerator =
    sym multiplied ∙ c.in_ok-numerator.was in
    let q : within (c.args.d *ℤ pos (unsigned_abs c.args.m)) ≡ None = simp to_z-of_z at (sym c.times_absolute.ensures.value ∙ c.in_err-denominator.was) in
    ap known_rational c.from_residual-in_err-denominator.ensures ∙ sym (step _ _ _ _ p ∙ stop _ _ _ q)

pub returns : goal.returns
returns c =
    let n : FitsSigned w128 c.args.n = c.ranges.n in
    let m : FitsSigned w128 c.args.m = c.ranges.m in
    let d : FitsSigned w128 c.args.d = c.ranges.d in
    let e : FitsSigned w128 c.args.e = c.ranges.e in
    let sign : FitsSigned w128 c.with_sign_of.result = search rules in
    let signed : c.with_sign_of.result ≡ with_sign_of c.args.m (unsigned_abs c.args.e) =
    simp to_z-of_z at c.with_sign_of.ensures in
    let multiplied : c.times.result ≡ within (c.args.n *ℤ with_sign_of c.args.m (unsigned_abs c.args.e)) =
    simp to_z-of_z at c.times.ensures ∙ ap (λ z. within (c.args.n *ℤ z)) signed in
    let top : FitsSigned w128 c.in_ok-numerator.numerator = search rules in
    let low : FitsSigned w128 c.in_ok-denominator.denominator = search rules in
    let p : within (c.args.n *ℤ with_sign_of c.args.m (unsigned_abs c.args.e)) ≡ Some c.in_ok-numerator.numerator =
    sym multiplied ∙ c.in_ok-numerator.was in
    let q : within (c.args.d *ℤ pos (unsigned_abs c.args.m)) ≡ Some c.in_ok-denominator.denominator =
    simp to_z-of_z at (sym c.times_absolute.ensures.value ∙ c.in_ok-denominator.was) in
    let made : known_rational c.lowest.result
    ≡ held (ratio c.in_ok-numerator.numerator (unsigned_abs c.in_ok-denominator.denominator)) =
    simp to_z-of_z at c.lowest.ensures in
    made ∙ two_done _ _ _ _ p q
