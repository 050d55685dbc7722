use Rattle.std.proofs.Common.{◌∙◌, sym, ap}
use Rattle.smt_values.specs.Element.{known_element}
use Rattle.smt_arrays.specs.Internal.{unless_array}
use Rattle.smt_arrays.proofs.LiftLemmas.{is_hidden, is_shown}
use Rattle.smt_arrays.proofs.arrays.unless_array.Goals as goal

pub returns-in-Some : goal.returns-in-Some
returns-in-Some c =
    is_hidden c.in_ok-value.value c.in-Some.field-0 c.in-Some.ensures
    ∙ ap (λ v. unless_array (known_element v)) (sym c.in_ok-value.was)

pub returns-in-None : goal.returns-in-None
returns-in-None c =
    is_shown c.in_ok-value.value c.in-None.ensures ∙ ap (λ v. unless_array (known_element v)) (sym c.in_ok-value.was)
