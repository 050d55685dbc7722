use Rattle.std.proofs.Common.{rules, ◌≡◌, ◌<◌, ◌∙◌, FitsSigned, ap, subst, sym, unsigned_abs, pos, ℤ}
use Rattle.std.specs.Int.{IsGcd, w128}
use Rattle.std.proofs.lemmas.Int.{to_z-of_z}
use Rattle.smt_ratios.specs.Known.{held}
use Rattle.smt_ratios.specs.Rational.{gcd, Integer, ratio}
use Rattle.smt_ratios.proofs.LawLemmas.{integer_ratio}
use Rattle.smt_ratios.proofs.RatioLemmas.{lowest_alone, lowest_over}
use Rattle.smt_ratios.proofs.number.lowest.Goals as goal

pub returns-then-denominator-eq1 : goal.returns-then-denominator-eq1
returns-then-denominator-eq1 c =
    let one : c.args.denominator ≡ pos 1 = search rules in
    ap (λ (z : ℤ). held (Integer z)) (to_z-of_z w128 c.args.numerator c.ranges.numerator)
    ∙ ap held (sym (integer_ratio c.args.numerator)) ∙ ap (λ d. held (ratio c.args.numerator (unsigned_abs d))) (sym one)

pub number_of_terms-requires-clause-alone : goal.number_of_terms-requires-clause-alone
number_of_terms-requires-clause-alone c =
    let n : FitsSigned w128 c.args.numerator = c.ranges.numerator in
    let d : FitsSigned w128 c.args.denominator = c.ranges.denominator in
    let divisor : c.divisor_of-divisor.result ≡ pos (gcd (unsigned_abs c.args.numerator) (unsigned_abs c.args.denominator)) =
    simp to_z-of_z at c.divisor_of-divisor.ensures.value in
    let top : FitsSigned w128 c.exact_quotient.result = search rules in
    let low : FitsSigned w128 c.exact_quotient-2.result = search rules in
    let same : c.unsigned_abs.result ≡ unsigned_abs c.exact_quotient-2.result =
    c.unsigned_abs.ensures.value ∙ ap unsigned_abs (to_z-of_z w128 c.exact_quotient-2.result low) in
    subst (λ z. IsGcd (unsigned_abs z) c.unsigned_abs.result 1) (sym (to_z-of_z w128 c.exact_quotient.result top))
    (subst (λ d. IsGcd (unsigned_abs c.exact_quotient.result) d 1) (sym same)
    (lowest_alone c.args.numerator c.args.denominator c.divisor_of-divisor.result c.exact_quotient.result c.exact_quotient-2.result c.requires
    divisor (search rules) (search rules)))

pub number_of_terms-requires-clause-over_zero : goal.number_of_terms-requires-clause-over_zero
number_of_terms-requires-clause-over_zero c =
    let n : FitsSigned w128 c.args.numerator = c.ranges.numerator in
    let d : FitsSigned w128 c.args.denominator = c.ranges.denominator in
    let divisor : c.divisor_of-divisor.result ≡ pos (gcd (unsigned_abs c.args.numerator) (unsigned_abs c.args.denominator)) =
    simp to_z-of_z at c.divisor_of-divisor.ensures.value in
    let low : FitsSigned w128 c.exact_quotient-2.result = search rules in
    let same : c.unsigned_abs.result ≡ unsigned_abs c.exact_quotient-2.result =
    c.unsigned_abs.ensures.value ∙ ap unsigned_abs (to_z-of_z w128 c.exact_quotient-2.result low) in
    subst (λ d. 0 < d) (sym same)
    (lowest_over c.args.numerator c.args.denominator c.divisor_of-divisor.result c.exact_quotient-2.result c.requires
    divisor (search rules))
