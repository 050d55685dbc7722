use Rattle.smt_trees.specs.Places.{size_of}
use Rattle.smt_terms.proofs.library.stops.stripped.Given as goal

abbrev pub decreases-loop-inner : goal.decreases-loop-inner
decreases-loop-inner l = size_of l.left
