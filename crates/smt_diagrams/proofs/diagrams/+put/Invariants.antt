use Rattle.smt_diagrams.proofs.diagrams.+put.Given as goal

abbrev pub decreases-put : goal.decreases-put
decreases-put l = l.bits
