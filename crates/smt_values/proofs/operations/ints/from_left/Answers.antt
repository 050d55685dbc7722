use Rattle.std.proofs.Common.{◌∙◌, ◌-◌, length, take, drop, ap, sym, arith, rules}
use Rattle.std.proofs.lemmas.Int.{to_z-of_z}
use Rattle.std.specs.Int.{w128}
use Rattle.std.specs.Prelude.{FitsSigned, option_and_then}
use Rattle.smt_values.specs.Element.{known_elements}
use Rattle.smt_values.specs.KnownOperations.{known_arithmetic, known_integers}
use Rattle.smt_values.specs.Lists.{steps_from}
use Rattle.smt_values.proofs.KnownLoopLemmas.{from_left_steps, rest_is}
use Rattle.smt_values.proofs.operations.ints.from_left.Goals as goal

pub returns-in_ok-integer-in-len1-up : goal.returns-in_ok-integer-in-len1-up
returns-in_ok-integer-in-len1-up c =
    let first = c.in_ok-integer-in-len1-up.field-0 in
    let fits : FitsSigned w128 c.in_ok-integer-in-len1-up.field-0 = search rules in
    c.steps.ensures
    ∙ ap (λ z. option_and_then (steps_from (known_arithmetic c.args.op) z)
    (known_integers (known_elements (take (length c.args.args.now - 1) (drop 1 c.args.args.now)))))
    (to_z-of_z w128 first fits)
    ∙ ap (λ xs. option_and_then (steps_from (known_arithmetic c.args.op) first)
    (known_integers (known_elements xs))) (rest_is c.args.args.now)
    ∙ from_left_steps c.args.op c.args.args.now c.first-item.result first (omega arith) c.first-item.is
    (sym c.integer-in-len1-up.ensures ∙ c.in_ok-integer-in-len1-up.was)
