-- The arrays among values are arrays that there are. This file knows no machine.
use Rattle.std.specs.Prelude.{◌≡◌, ℕ, Option, Some, None}
use Rattle.std.specs.Coded.{Unit-prop, le_prop}
use Rattle.smt_arrays.specs.Tables.{IsBefore, IsHeldIfKnown, place_of_array}
use Rattle.smt_values.specs.declared.value.Value.{Value}
use Rattle.smt_machine.specs.Internal.KeptView.{kept_at}
use Rattle.smt_machine.specs.declared.kept.Kept.{Kept}

-- each value that is kept, if it is an array, is among the first so many
abbrev pub AreKeptHeld : ℕ → Kept → Type 0
AreKeptHeld count kept = (number : ℕ) (value : Option Value) → kept_at kept number ≡ Some value
    → IsHeldIfKnown count value

-- the value is no array
abbrev pub IsNoArray : Option Value → Type 0
IsNoArray None = Unit {0}
IsNoArray (Some value) = place_of_array value ≡ None

before-prop : (count : ℕ) (place : Option ℕ) → IsProp (IsBefore count place)
before-prop count (Some place) = le_prop
before-prop count None = Unit-prop

pub held-prop : (count : ℕ) (value : Option Value) → IsProp (IsHeldIfKnown count value)
held-prop count None = Unit-prop
held-prop count (Some value) = before-prop count (place_of_array value)
