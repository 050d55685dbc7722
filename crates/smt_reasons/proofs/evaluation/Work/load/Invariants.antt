use Rattle.smt_reasons.proofs.evaluation.Work.load.Given as goal

abbrev pub decreases-loop-bound : goal.decreases-loop-bound
decreases-loop-bound l = l.left
