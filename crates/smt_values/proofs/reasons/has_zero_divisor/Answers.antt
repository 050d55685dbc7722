use Rattle.std.proofs.Common.{◌∙◌, ap, drop, sym}
use Rattle.std.specs.List.{list_any}
use Rattle.smt_values.specs.Element.{known_element, known_elements}
use Rattle.smt_values.specs.Reasons.{is_zero}
use Rattle.smt_values.proofs.KnownLoopLemmas.{list_any-map}
use Rattle.smt_values.proofs.reasons.has_zero_divisor.Goals as goal

pub returns-in-Some : goal.returns-in-Some
returns-in-Some c =
    c.some_are_zero.ensures ∙ sym (list_any-map is_zero known_element c.in-Some.divisors.now)
    ∙ sym (ap (λ xs. list_any is_zero (drop 1 (known_elements xs))) c.in-Some.ensures.cases.0)
