use Rattle.smt_reasons.proofs.evaluation.Work.scope_of.Given as goal

abbrev pub decreases-loop-bound : goal.decreases-loop-bound
decreases-loop-bound l = l.scope
