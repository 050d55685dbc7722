-- the vectors above are among the indexes
use Rattle.std.proofs.Common.{◌≡◌, ◌<◌, ◌^◌, suc}
use Rattle.smt_arrays.specs.Cells.{arrays_of}
use Rattle.smt_arrays.specs.Reading.{both_indexes, has_vectors}
use Rattle.smt_arrays.specs.Tables.{array_at}
use Rattle.smt_arrays.proofs.sameness.are_vectors_written.Given as goal

abbrev pub invariant-loop-width : goal.invariant-loop-width
invariant-loop-width l = record {
  below : l.number < 2 ^ l.width;
  same : has_vectors l.width (2 ^ l.width) (both_indexes (array_at (arrays_of l.cells) l.a)
      (array_at (arrays_of l.cells) l.b))
      ≡ has_vectors l.width (suc l.number) (both_indexes (array_at (arrays_of l.cells) l.a)
      (array_at (arrays_of l.cells) l.b));
}

abbrev pub decreases-loop-width : goal.decreases-loop-width
decreases-loop-width l = l.number
