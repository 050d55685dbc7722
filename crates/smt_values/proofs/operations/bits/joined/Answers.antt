use Rattle.std.proofs.Common.{◌∙◌, sym, arith}
use Rattle.smt_bits.specs.Parts.{concatenation}
use Rattle.smt_values.specs.KnownOperations.{known_vector}
use Rattle.smt_values.proofs.KnownLoopLemmas.{steps_at}
use Rattle.smt_values.proofs.operations.bits.joined.Goals as goal

pub loop-arg-preserved : goal.loop-arg-preserved
loop-arg-preserved c =
    c.loop-arg.invariant
    ∙ steps_at known_vector concatenation c.args.rest.now c.loop-arg.arg-index c.arg-item.result
    c.loop-arg.whole c.in_ok-next.next c.in_ok-whole.whole (omega arith) c.arg-item.is
    (sym c.bits.ensures ∙ c.in_ok-next.was) (sym c.concat.ensures ∙ c.in_ok-whole.was)
