-- none was slow so far
use Rattle.std.proofs.Common.{◌≡◌, length}
use Rattle.std.specs.List.{list_any}
use Rattle.smt_arrays.specs.Cells.{arrays_of}
use Rattle.smt_arrays.specs.Internal.{elements_in}
use Rattle.smt_arrays.specs.Known.{is_slow}
use Rattle.smt_arrays.specs.Tables.{AreHeld}
use Rattle.smt_arrays.proofs.arrays.Arrays.is_one_slow.Given as goal

abbrev pub invariant-loop-first : goal.invariant-loop-first
invariant-loop-first l = record {
  held : AreHeld (length l.self) l.left;
  same : list_any is_slow (elements_in (arrays_of l.self) l.args)
      ≡ list_any is_slow (elements_in (arrays_of l.self) l.left);
}

abbrev pub decreases-loop-first : goal.decreases-loop-first
decreases-loop-first l = length l.left
