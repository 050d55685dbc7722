use Rattle.smt_diagrams.proofs.diagrams.+element_in.Given as goal

abbrev pub decreases-element_in : goal.decreases-element_in
decreases-element_in l = l.bits
