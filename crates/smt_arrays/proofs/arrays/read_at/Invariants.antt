-- what is left to be read is what is read
use Rattle.std.proofs.Common.{◌≡◌}
use Rattle.smt_values.specs.Element.{element_of}
use Rattle.smt_arrays.specs.Element.{Plain}
use Rattle.smt_arrays.specs.Cells.{arrays_of}
use Rattle.smt_arrays.specs.Reading.{read}
use Rattle.smt_arrays.specs.Tables.{array_at}
use Rattle.smt_arrays.proofs.arrays.read_at.Given as goal

abbrev pub invariant-loop-cell : goal.invariant-loop-cell
invariant-loop-cell l = record {
  same : read (array_at (arrays_of l.cells) l.place) (Plain (element_of l.index))
      ≡ read (array_at (arrays_of l.cells) l.at) (Plain (element_of l.index));
}

abbrev pub decreases-loop-cell : goal.decreases-loop-cell
decreases-loop-cell l = l.at
