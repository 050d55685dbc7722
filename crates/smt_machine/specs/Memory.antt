-- What a contract says of the memory that a machine has, of its arrays, and of what it keeps there.
use Rattle.std.specs.Prelude.{◌≡◌, ℕ, List, [], Option, Some, length, vec_capacity}
use Rattle.smt_arrays.specs.Cells.{arrays_of}
use Rattle.smt_arrays.specs.Element.{Element}
use Rattle.smt_arrays.specs.Tables.{IsHeldIfKnown, known_in}
use Rattle.smt_values.specs.declared.value.Value.{Value}
use Rattle.smt_machine.specs.Given.{given}
use Rattle.smt_machine.specs.Internal.KeptView.{kept_at}
use Rattle.smt_machine.specs.Nodes.{Node}
use Rattle.smt_machine.specs.declared.machine.Machine.{Machine}

-- none
abbrev pub HasNoMemory : Machine → Type 0
HasNoMemory m = (vec_capacity m.values ≡ 0) × (vec_capacity m.frames ≡ 0) × (vec_capacity m.tasks ≡ 0)
    × (vec_capacity m.kept.found ≡ 0) × (vec_capacity m.kept.places ≡ 0)

-- the arrays that a machine has made, by their places
abbrev pub arrays_in : Machine → List Element
arrays_in m = arrays_of m.arrays

-- a machine has the array that a value is, if it is one
abbrev pub Holds : Machine → Option Value → Type 0
Holds m value = IsHeldIfKnown (length (arrays_in m)) value

-- the values that a machine keeps of closed nodes are what is known of these
abbrev pub Remembers : Machine → List Node → Type 0
Remembers m nodes = (number : ℕ) (v : Option Value) → kept_at m.kept number ≡ Some v
    → known_in (arrays_in m) v ≡ given nodes number []
