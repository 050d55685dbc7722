use Rattle.std.proofs.Common.{◌∙◌, sym, arith}
use Rattle.smt_values.proofs.DistinctLemmas.{apart_short}
use Rattle.smt_values.proofs.operations.distinct.are_neighbours_distinct.Goals as goal

pub returns : goal.returns
returns c = apart_short _ c.loop-left.left.now (omega arith) ∙ sym c.loop-left.invariant
