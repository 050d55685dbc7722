use Rattle.std.proofs.Common.{◌∙◌, sym, arith}
use Rattle.smt_values.proofs.KnownLoopLemmas.{chained_short}
use Rattle.smt_values.proofs.operations.bools.are_all_same.Goals as goal

pub returns : goal.returns
returns c = chained_short c.loop-left.left.now (omega arith) ∙ sym c.loop-left.invariant
