use Rattle.std.proofs.Common.{◌≡◌, ◌∙◌, ◌&&◌, Some, ap, sym, arith}
use Rattle.smt_ratios.specs.View.{known_rational, rational_of}
use Rattle.smt_values.specs.Element.{known_element}
use Rattle.smt_values.specs.KnownNumbers.{known_number}
use Rattle.smt_values.specs.Numbers.{orders}
use Rattle.smt_values.proofs.KnownLoopLemmas.{chained_at}
use Rattle.smt_values.proofs.operations.numbers.chain.Goals as goal
use Rattle.smt_values.proofs.operations.numbers.chain.Goals.{then-holds, else-holds}

pub loop-arg-preserved : goal.loop-arg-preserved
loop-arg-preserved c =
    let last = rational_of c.loop-arg.last in
    let next = rational_of c.in_ok-next.next in
    let known : known_number (known_element c.arg-item.result) ≡ Some next =
    sym c.number-in-loop-arg.ensures ∙ ap known_rational c.in_ok-next.was in
    c.loop-arg.invariant
    ∙ elim c.if-holds.branch [
      | then-holds w ↦
          chained_at known_number (orders c.args.op) c.in-Some.rest.now c.loop-arg.arg-index c.arg-item.result
          c.loop-arg.holds c.if-holds.holds last next (rational_of c.if-holds.last)
          (omega arith) c.arg-item.is known
          (ap (λ b. b && orders c.args.op last next) w.if-holds.true ∙ sym
          (w.holds-is ∙ w.is_related-holds.ensures))
          (ap rational_of (sym w.last-is))
      | else-holds w ↦
          chained_at known_number (orders c.args.op) c.in-Some.rest.now c.loop-arg.arg-index c.arg-item.result
          c.loop-arg.holds c.if-holds.holds last next (rational_of c.if-holds.last)
          (omega arith) c.arg-item.is known
          (ap (λ b. b && orders c.args.op last next) w.if-holds.false ∙ sym (w.holds-is ∙ w.if-holds.false))
          (ap rational_of (sym w.last-is))
    ]
