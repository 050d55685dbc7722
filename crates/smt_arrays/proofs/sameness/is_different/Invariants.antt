-- the answer for all is what was found, and the answer for those that are left
use Rattle.std.proofs.Common.{◌≡◌, length, map, not, option_map}
use Rattle.smt_arrays.specs.Cells.{arrays_of}
use Rattle.smt_arrays.specs.Internal.{both, elements_in, known_same_in}
use Rattle.smt_arrays.specs.Known.{are_all_so}
use Rattle.smt_arrays.specs.Tables.{AreHeld, element_in}
use Rattle.smt_arrays.proofs.sameness.is_different.Given as goal

abbrev pub invariant-loop-first : goal.invariant-loop-first
invariant-loop-first l = record {
  held : AreHeld (length l.cells) l.left;
  same : are_all_so (map (λ e. option_map not (known_same_in 2 (element_in (arrays_of l.cells) l.value) e))
      (elements_in (arrays_of l.cells) l.others))
      ≡ both l.found (are_all_so (map (λ e. option_map not (known_same_in 2 (element_in (arrays_of l.cells) l.value) e))
      (elements_in (arrays_of l.cells) l.left)));
}

abbrev pub decreases-loop-first : goal.decreases-loop-first
decreases-loop-first l = length l.left
