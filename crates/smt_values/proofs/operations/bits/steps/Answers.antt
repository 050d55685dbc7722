use Rattle.std.proofs.Common.{◌∙◌, sym, arith}
use Rattle.smt_values.specs.KnownBitOperations.{known_folded}
use Rattle.smt_values.specs.KnownOperations.{known_vector}
use Rattle.smt_values.proofs.KnownLoopLemmas.{steps_at}
use Rattle.smt_values.proofs.operations.bits.steps.Goals as goal

pub loop-arg-preserved : goal.loop-arg-preserved
loop-arg-preserved c =
    c.loop-arg.invariant
    ∙ steps_at known_vector (known_folded c.args.op) c.args.rest.now c.loop-arg.arg-index c.arg-item.result
    c.loop-arg.total c.in_ok-next.next c.in_ok-total.total (omega arith) c.arg-item.is
    (sym c.bits.ensures ∙ c.in_ok-next.was) (sym c.combined.ensures ∙ c.in_ok-total.was)
