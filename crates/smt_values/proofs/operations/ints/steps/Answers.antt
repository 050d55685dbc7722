use Rattle.std.proofs.Common.{◌+◌, ◌∙◌, drop, ap, sym, arith, rules}
use Rattle.std.proofs.lemmas.Int.{to_z-of_z}
use Rattle.std.specs.Int.{w128, cast_signed}
use Rattle.std.specs.Prelude.{FitsSigned, option_and_then}
use Rattle.smt_values.specs.Element.{known_elements}
use Rattle.smt_values.specs.KnownOperations.{known_arithmetic, known_integer, known_integers}
use Rattle.smt_values.specs.Lists.{steps_from}
use Rattle.smt_values.proofs.KnownLoopLemmas.{steps_at}
use Rattle.smt_values.proofs.operations.ints.steps.Goals as goal

pub loop-arg-preserved : goal.loop-arg-preserved
loop-arg-preserved c =
    let next = c.in_ok-next.next in
    let total = c.in_ok-total.total in
    let before = cast_signed w128 c.loop-arg.total-bits in
    let next-fits : FitsSigned w128 c.in_ok-next.next = search rules in
    let total-fits : FitsSigned w128 c.in_ok-total.total = search rules in
    let combined = ap (known_arithmetic c.args.op before)
    (sym (to_z-of_z w128 next next-fits)) ∙ sym c.combined.ensures ∙ c.in_ok-total.was in
    c.loop-arg.invariant
    ∙ steps_at known_integer
    (known_arithmetic c.args.op) c.args.rest.now c.loop-arg.arg-index c.arg-item.result before next total
    (omega arith) c.arg-item.is (sym c.integer.ensures ∙ c.in_ok-next.was) combined
    ∙ ap (λ z. option_and_then (steps_from (known_arithmetic c.args.op) z)
    (known_integers (known_elements (drop (c.loop-arg.arg-index + 1) c.args.rest.now))))
    (sym (to_z-of_z w128 total total-fits))
