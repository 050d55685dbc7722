use Rattle.std.proofs.Common.{◌≡◌, ◌∙◌, ◌<ℤ◌, ◌^◌, FitsSigned, ap, sym, rules, subst, pos, None, Some, true}
use Rattle.std.proofs.Common.{nat_lt, unsigned_abs}
use Rattle.std.specs.Int.{w128}
use Rattle.std.proofs.lemmas.Int.{to_z-of_z}
use Rattle.smt_ratios.specs.Known.{held, within}
use Rattle.smt_ratios.specs.Rational.{ratio}
use Rattle.smt_ratios.specs.View.{known_rational}
use Rattle.smt_ratios.proofs.DecimalLemmas.{few_places, power_positive}
use Rattle.smt_ratios.proofs.KnownLemmas.{one_done, stop}
use Rattle.smt_ratios.proofs.decimals.decimal.Goals as goal

pub returns-in_err-numeral : goal.returns-in_err-numeral
returns-in_err-numeral c =
    let p : within (pos c.args.digits) ≡ None = sym c.numeral.ensures ∙ c.in_err-numeral.was in
    let few : nat_lt c.args.places 39 ≡ true = search rules in
    ap known_rational c.from_residual.ensures ∙ sym (few_places _ _ few ∙ stop _ _ _ p)

pub lowest-requires : goal.lowest-requires
lowest-requires c =
    let power : FitsSigned w128 c.power_of_ten.result = search rules in
    subst (λ z. pos 0 <ℤ z) (sym (to_z-of_z w128 c.power_of_ten.result power ∙ c.power_of_ten.ensures))
    (power_positive c.args.places)

pub returns : goal.returns
returns c =
    let power : FitsSigned w128 c.power_of_ten.result = search rules in
    let top : FitsSigned w128 c.in_ok-numeral.field-0 = search rules in
    let few : nat_lt c.args.places 39 ≡ true = search rules in
    let p : within (pos c.args.digits) ≡ Some c.in_ok-numeral.field-0 = sym c.numeral.ensures ∙ c.in_ok-numeral.was in
    let made : known_rational c.lowest.result
    ≡ held (ratio c.in_ok-numeral.field-0 (unsigned_abs c.power_of_ten.result)) =
    simp to_z-of_z at c.lowest.ensures in
    made ∙ ap (λ z. held (ratio c.in_ok-numeral.field-0 (unsigned_abs z))) c.power_of_ten.ensures
    ∙ one_done _ _ (pos (10 ^ c.args.places)) p ∙ sym (few_places _ _ few)
