use Rattle.smt_diagrams.proofs.diagrams.+add_differences.Given as goal

abbrev pub decreases-add_differences : goal.decreases-add_differences
decreases-add_differences l = l.bits
