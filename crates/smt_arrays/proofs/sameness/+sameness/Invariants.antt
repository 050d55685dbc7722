-- arrays are looked into only so deep
use Rattle.std.proofs.Common.{◌≡◌, ◌+◌, ◌*◌, map}
use Rattle.smt_arrays.specs.Cells.{arrays_of}
use Rattle.smt_arrays.specs.Internal.{both, known_same_in}
use Rattle.smt_arrays.specs.Known.{are_all_so}
use Rattle.smt_arrays.specs.Reading.{indexes, read}
use Rattle.smt_arrays.specs.Tables.{array_at}
use Rattle.smt_arrays.proofs.sameness.+sameness.Given as goal

abbrev pub decreases-are_alike : goal.decreases-are_alike
decreases-are_alike l = 3 * l.depth + 2

abbrev pub decreases-are_alike_where_written : goal.decreases-are_alike_where_written
decreases-are_alike_where_written l = 3 * l.depth + 1

abbrev pub decreases-default_sameness : goal.decreases-default_sameness
decreases-default_sameness l = 3 * l.depth + 1

abbrev pub decreases-sameness : goal.decreases-sameness
decreases-sameness l = 3 * l.depth

abbrev pub invariant-are_alike_where_written-loop-write : goal.invariant-are_alike_where_written-loop-write
invariant-are_alike_where_written-loop-write l = record {
  same : are_all_so (map (λ i. known_same_in l.depth (read (array_at (arrays_of l.cells) l.a) i)
      (read (array_at (arrays_of l.cells) l.b) i)) (indexes (array_at (arrays_of l.cells) l.array)))
      ≡ both l.found (are_all_so (map (λ i. known_same_in l.depth (read (array_at (arrays_of l.cells) l.a) i)
      (read (array_at (arrays_of l.cells) l.b) i)) (indexes (array_at (arrays_of l.cells) l.at))));
}

abbrev pub decreases-are_alike_where_written-loop-write : goal.decreases-are_alike_where_written-loop-write
decreases-are_alike_where_written-loop-write l = l.at
