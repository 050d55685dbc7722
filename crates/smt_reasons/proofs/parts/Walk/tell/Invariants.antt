use Rattle.smt_reasons.proofs.parts.Walk.tell.Given as goal

abbrev pub decreases-loop-part : goal.decreases-loop-part
decreases-loop-part l = l.turns
