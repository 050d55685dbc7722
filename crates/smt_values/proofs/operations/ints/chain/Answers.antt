use Rattle.std.proofs.Common.{◌∙◌, ◌&&◌, ap, sym, arith, rules}
use Rattle.std.proofs.lemmas.Int.{to_z-of_z}
use Rattle.std.specs.Int.{w128, cast_signed}
use Rattle.std.specs.Prelude.{FitsSigned}
use Rattle.smt_values.specs.Operations.{compares}
use Rattle.smt_values.proofs.KnownLoopLemmas.{chain_at}
use Rattle.smt_values.proofs.operations.ints.chain.Goals as goal
use Rattle.smt_values.proofs.operations.ints.chain.Goals.{then-holds, else-holds}

pub loop-arg-preserved : goal.loop-arg-preserved
loop-arg-preserved c =
    let last = cast_signed w128 c.loop-arg.last-bits in
    let next = c.in_ok-next.next in
    let fits : FitsSigned w128 c.in_ok-next.next = search rules in
    let same = to_z-of_z w128 c.in_ok-next.next fits in
    let known = sym c.integer-in-loop-arg.ensures ∙ c.in_ok-next.was in
    c.loop-arg.invariant
    ∙ elim c.if-holds.branch [
      | then-holds w ↦
          chain_at (compares c.args.op) c.in-Some.rest.now c.loop-arg.arg-index c.arg-item.result
          c.loop-arg.holds c.if-holds.holds last next (cast_signed w128 c.if-holds.last-bits)
          (omega arith) c.arg-item.is known
          (ap (λ b. b && compares c.args.op last next) w.if-holds.true ∙ sym
          (w.holds-is ∙ w.is_related-holds.ensures ∙ ap (compares c.args.op last) same))
          (sym (w.last-is ∙ same))
      | else-holds w ↦
          chain_at (compares c.args.op) c.in-Some.rest.now c.loop-arg.arg-index c.arg-item.result
          c.loop-arg.holds c.if-holds.holds last next (cast_signed w128 c.if-holds.last-bits)
          (omega arith) c.arg-item.is known
          (ap (λ b. b && compares c.args.op last next) w.if-holds.false ∙ sym (w.holds-is ∙ w.if-holds.false))
          (sym (w.last-is ∙ same))
    ]
