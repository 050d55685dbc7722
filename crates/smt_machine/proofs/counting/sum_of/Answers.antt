use Rattle.std.proofs.Common.{◌+◌, length}
use Rattle.smt_machine.proofs.SumLemmas.{sum_next}
use Rattle.smt_machine.proofs.counting.sum_of.Goals as goal

pub loop-id-preserved : goal.loop-id-preserved
loop-id-preserved c = λ cost kept. sum_next (length c.args.kept.now) cost (λ id. c.args.parts.shift + id)
    c.args.parts.ids.now c.loop-id.id-index c.id-item.result c.loop-id.sum c.cost_of.result
    c.saturating_add-sum.result c.loop-id-test.true c.id-item.is (c.loop-id.invariant cost kept)
    (c.cost_of.ensures cost kept) c.saturating_add-sum.ensures
