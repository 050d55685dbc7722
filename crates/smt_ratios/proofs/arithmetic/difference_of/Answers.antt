use Rattle.std.proofs.Common.{◌≡◌, ◌∙◌, FitsSigned, ap, sym, ◌-ℤ◌, ◌*ℤ◌, Some, None, unsigned_abs, rules}
use Rattle.std.specs.Int.{w128}
use Rattle.std.proofs.lemmas.Int.{to_z-of_z}
use Rattle.smt_ratios.specs.Known.{held, within}
use Rattle.smt_ratios.specs.Rational.{ratio}
use Rattle.smt_ratios.specs.View.{known_rational}
use Rattle.smt_ratios.proofs.KnownLemmas.{four_done, step, stop, three_step, three_stop}
use Rattle.smt_ratios.proofs.arithmetic.difference_of.Goals as goal

pub returns-in_err-left : goal.returns-in_err-left
returns-in_err-left c =
    let n : FitsSigned w128 c.args.n = c.ranges.n in
    let d : FitsSigned w128 c.args.d = c.ranges.d in
    let m : FitsSigned w128 c.args.m = c.ranges.m in
    let e : FitsSigned w128 c.args.e = c.ranges.e in
    let p : within (c.args.n *ℤ c.args.e) ≡ None = simp to_z-of_z at (sym c.times.ensures ∙ c.in_err-left.was) in
    ap known_rational c.from_residual.ensures ∙ sym (stop _ _ _ p)

pub returns-in_err-right : goal.returns-in_err-right
returns-in_err-right c =
    let n : FitsSigned w128 c.args.n = c.ranges.n in
    let d : FitsSigned w128 c.args.d = c.ranges.d in
    let m : FitsSigned w128 c.args.m = c.ranges.m in
    let e : FitsSigned w128 c.args.e = c.ranges.e in
    let left : FitsSigned w128 c.in_ok-left.left = search rules in
    let p : within (c.args.n *ℤ c.args.e) ≡ Some c.in_ok-left.left =
    simp to_z-of_z at (sym c.times.ensures ∙ c.in_ok-left.was) in
    let q : within (c.args.m *ℤ c.args.d) ≡ None = simp to_z-of_z at (sym c.times-2.ensures ∙ c.in_err-right.was) in
    ap known_rational c.from_residual-in_err-right.ensures ∙ sym (step _ _ _ _ p ∙ stop _ _ _ q)

pub returns-in_err-numerator : goal.returns-in_err-numerator
returns-in_err-numerator c =
    let n : FitsSigned w128 c.args.n = c.ranges.n in
    let d : FitsSigned w128 c.args.d = c.ranges.d in
    let m : FitsSigned w128 c.args.m = c.ranges.m in
    let e : FitsSigned w128 c.args.e = c.ranges.e in
    let left : FitsSigned w128 c.in_ok-left.left = search rules in
    let p : within (c.args.n *ℤ c.args.e) ≡ Some c.in_ok-left.left =
    simp to_z-of_z at (sym c.times.ensures ∙ c.in_ok-left.was) in
    let right : FitsSigned w128 c.in_ok-right.right = search rules in
    let q : within (c.args.m *ℤ c.args.d) ≡ Some c.in_ok-right.right =
    simp to_z-of_z at (sym c.times-2.ensures ∙ c.in_ok-right.was) in
    let s : within (c.in_ok-left.left -ℤ c.in_ok-right.right) ≡ None =
    simp to_z-of_z at (sym c.minus.ensures ∙ c.in_err-numerator.was) in
    ap known_rational c.from_residual-in_err-numerator.ensures ∙ sym (three_stop (λ x y. x -ℤ y) _ _ _ _ _ _ p q s)

pub returns-in_err-denominator : goal.returns-in_err-denominator
returns-in_err-denominator c =
    let n : FitsSigned w128 c.args.n = c.ranges.n in
    let d : FitsSigned w128 c.args.d = c.ranges.d in
    let m : FitsSigned w128 c.args.m = c.ranges.m in
    let e : FitsSigned w128 c.args.e = c.ranges.e in
    let left : FitsSigned w128 c.in_ok-left.left = search rules in
    let p : within (c.args.n *ℤ c.args.e) ≡ Some c.in_ok-left.left =
    simp to_z-of_z at (sym c.times.ensures ∙ c.in_ok-left.was) in
    let right : FitsSigned w128 c.in_ok-right.right = search rules in
    let q : within (c.args.m *ℤ c.args.d) ≡ Some c.in_ok-right.right =
    simp to_z-of_z at (sym c.times-2.ensures ∙ c.in_ok-right.was) in
    let top : FitsSigned w128 c.in_ok-numerator.numerator = search rules in
    let s : within (c.in_ok-left.left -ℤ c.in_ok-right.right) ≡ Some c.in_ok-numerator.numerator =
    simp to_z-of_z at (sym c.minus.ensures ∙ c.in_ok-numerator.was) in
    let t : within (c.args.d *ℤ c.args.e) ≡ None =
    simp to_z-of_z at (sym c.denominator_of.ensures.value ∙ c.in_err-denominator.was) in
    ap known_rational c.from_residual-in_err-denominator.ensures
    ∙ sym (three_step (λ x y. x -ℤ y) _ _ _ _ _ _ _ p q s ∙ stop _ _ _ t)

pub returns : goal.returns
returns c =
    let n : FitsSigned w128 c.args.n = c.ranges.n in
    let d : FitsSigned w128 c.args.d = c.ranges.d in
    let m : FitsSigned w128 c.args.m = c.ranges.m in
    let e : FitsSigned w128 c.args.e = c.ranges.e in
    let left : FitsSigned w128 c.in_ok-left.left = search rules in
    let p : within (c.args.n *ℤ c.args.e) ≡ Some c.in_ok-left.left =
    simp to_z-of_z at (sym c.times.ensures ∙ c.in_ok-left.was) in
    let right : FitsSigned w128 c.in_ok-right.right = search rules in
    let q : within (c.args.m *ℤ c.args.d) ≡ Some c.in_ok-right.right =
    simp to_z-of_z at (sym c.times-2.ensures ∙ c.in_ok-right.was) in
    let top : FitsSigned w128 c.in_ok-numerator.numerator = search rules in
    let s : within (c.in_ok-left.left -ℤ c.in_ok-right.right) ≡ Some c.in_ok-numerator.numerator =
    simp to_z-of_z at (sym c.minus.ensures ∙ c.in_ok-numerator.was) in
    let low : FitsSigned w128 c.in_ok-denominator.denominator = search rules in
    let t : within (c.args.d *ℤ c.args.e) ≡ Some c.in_ok-denominator.denominator =
    simp to_z-of_z at (sym c.denominator_of.ensures.value ∙ c.in_ok-denominator.was) in
    let made : known_rational c.lowest.result
    ≡ held (ratio c.in_ok-numerator.numerator (unsigned_abs c.in_ok-denominator.denominator)) =
    simp to_z-of_z at c.lowest.ensures in
    made ∙ four_done (λ x y. x -ℤ y) _ _ _ _ _ _ _ p q s t
