use Rattle.std.proofs.Common.{length}
use Rattle.smt_terms.proofs.library.stops.list_in.Given as goal

abbrev pub decreases-loop-frame : goal.decreases-loop-frame
decreases-loop-frame l = length l.left
