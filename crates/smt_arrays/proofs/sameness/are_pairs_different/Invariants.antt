-- the answer for all is what was found, and the answer for those that are left
use Rattle.std.proofs.Common.{◌≡◌, length}
use Rattle.smt_arrays.specs.Cells.{arrays_of}
use Rattle.smt_arrays.specs.Internal.{both, elements_in}
use Rattle.smt_arrays.specs.Known.{are_all_so, pairs_different}
use Rattle.smt_arrays.specs.Tables.{AreHeld}
use Rattle.smt_arrays.proofs.sameness.are_pairs_different.Given as goal

abbrev pub invariant-loop-first : goal.invariant-loop-first
invariant-loop-first l = record {
  held : AreHeld (length l.cells) l.left;
  same : are_all_so (pairs_different (elements_in (arrays_of l.cells) l.args))
      ≡ both l.found (are_all_so (pairs_different (elements_in (arrays_of l.cells) l.left)));
}

abbrev pub decreases-loop-first : goal.decreases-loop-first
decreases-loop-first l = length l.left
