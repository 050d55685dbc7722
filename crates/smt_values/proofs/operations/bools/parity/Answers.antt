use Rattle.std.proofs.Common.{◌∙◌, sym, arith}
use Rattle.smt_values.proofs.KnownLoopLemmas.{parity_at}
use Rattle.smt_values.proofs.operations.bools.parity.Goals as goal

pub loop-arg-preserved : goal.loop-arg-preserved
loop-arg-preserved c =
    let e = sym c.truth.ensures ∙ c.in_ok-is_true.was in
    let i = c.loop-arg.invariant ∙ parity_at c.args.args.now c.loop-arg.arg-index c.arg-item.result
    c.loop-arg.odd c.in_ok-is_true.is_true (omega arith) c.arg-item.is e in
    rw c.is_one_of-odd.ensures i
