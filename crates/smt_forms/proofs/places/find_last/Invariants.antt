use Rattle.std.proofs.Common.{◌≡◌, ◌≤◌, length, take}
use Rattle.smt_forms.specs.Internal.Places.{names_of, place_from}
use Rattle.smt_forms.proofs.places.find_last.Given as goal

abbrev pub invariant-loop-left : goal.invariant-loop-left
invariant-loop-left l = record {
  within : l.left ≤ length l.names;
  none : place_from 0 (names_of l.names) l.name ≡ place_from 0 (names_of (take l.left l.names)) l.name;
}

abbrev pub decreases-loop-left : goal.decreases-loop-left
decreases-loop-left l = l.left
