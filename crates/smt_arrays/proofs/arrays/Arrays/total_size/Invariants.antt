-- what was added up, and the sizes of those that are left
use Rattle.std.proofs.Common.{◌≡◌, ◌≤◌, ◌+◌, length, map, min}
use Rattle.std.specs.List.{sum}
use Rattle.smt_arrays.specs.Cells.{arrays_of}
use Rattle.smt_arrays.specs.Internal.{elements_in}
use Rattle.smt_arrays.specs.Known.{size}
use Rattle.smt_arrays.proofs.arrays.Arrays.total_size.Given as goal

abbrev pub invariant-loop-first : goal.invariant-loop-first
invariant-loop-first l = record {
  below : l.total ≤ 257;
  same : min (sum (map size (elements_in (arrays_of l.self) l.args))) 257
      ≡ min (l.total + sum (map size (elements_in (arrays_of l.self) l.left))) 257;
}

abbrev pub decreases-loop-first : goal.decreases-loop-first
decreases-loop-first l = length l.left
