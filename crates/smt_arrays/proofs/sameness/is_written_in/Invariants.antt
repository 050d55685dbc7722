-- what is left of the writes is what was not looked at
use Rattle.std.proofs.Common.{◌≡◌}
use Rattle.smt_values.specs.Element.{element_of}
use Rattle.smt_arrays.specs.Cells.{arrays_of}
use Rattle.smt_arrays.specs.Element.{Plain}
use Rattle.smt_arrays.specs.Reading.{indexes, is_among}
use Rattle.smt_arrays.specs.Tables.{array_at}
use Rattle.smt_arrays.proofs.sameness.is_written_in.Given as goal

abbrev pub invariant-loop-write : goal.invariant-loop-write
invariant-loop-write l = record {
  same : is_among (Plain (element_of l.index)) (indexes (array_at (arrays_of l.cells) l.array))
      ≡ is_among (Plain (element_of l.index)) (indexes (array_at (arrays_of l.cells) l.at));
}

abbrev pub decreases-loop-write : goal.decreases-loop-write
decreases-loop-write l = l.at
