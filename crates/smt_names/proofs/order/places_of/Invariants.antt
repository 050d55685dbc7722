use Rattle.std.proofs.Common.{◌≤◌, ◌-◌, length, take}
use Rattle.smt_names.specs.Internal.Order.{HasPlaces}
use Rattle.smt_names.proofs.order.places_of.Given as goal

abbrev pub invariant-loop-next : goal.invariant-loop-next
invariant-loop-next l = record {
  within : l.next ≤ length l.names;
  first : HasPlaces (take l.next l.names) l.places;
}

abbrev pub decreases-loop-next : goal.decreases-loop-next
decreases-loop-next l = length l.names - l.next
