use Rattle.std.proofs.Common.{◌≡◌, ◌≤◌, drop}
use Rattle.smt_values.specs.Decimals.{places, places_from}
use Rattle.smt_values.proofs.literal_values.places.Given as goal

abbrev pub invariant-loop-digit : goal.invariant-loop-digit
invariant-loop-digit l =
    (places l.fn.digits ≡ places_from l.count (drop l.digit-index l.digits)) × (l.count ≤ l.digit-index)
