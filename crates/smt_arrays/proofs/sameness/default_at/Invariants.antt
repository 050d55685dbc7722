-- what is left of the array has the same default
use Rattle.std.proofs.Common.{◌≡◌}
use Rattle.smt_arrays.specs.Cells.{arrays_of}
use Rattle.smt_arrays.specs.Reading.{default_of}
use Rattle.smt_arrays.specs.Tables.{array_at}
use Rattle.smt_arrays.proofs.sameness.default_at.Given as goal

abbrev pub invariant-loop-cell : goal.invariant-loop-cell
invariant-loop-cell l = record {
  same : default_of (array_at (arrays_of l.cells) l.array) ≡ default_of (array_at (arrays_of l.cells) l.at);
}

abbrev pub decreases-loop-cell : goal.decreases-loop-cell
decreases-loop-cell l = l.at
