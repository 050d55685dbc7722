-- Arrays by places: an array that a value holds is the one at its place.
use Rattle.std.specs.Prelude.{◌≡◌, ◌<◌, ℕ, false, List, [], ◌∷◌, ◌++◌, Option, Some, None, get_or, length}
use Rattle.std.specs.Prelude.{map, slice_get}
use Rattle.std.specs.List.{All}
use Rattle.smt_values.specs.Element.{element_of}
use Rattle.smt_values.specs.ElementNumbers.{array_place}
use Rattle.smt_values.specs.declared.value.Value.{Value}
use Rattle.smt_values.specs.declared.value.Value.TheVariants.{Abstract as AbstractValue}
use Rattle.smt_arrays.specs.Element.{Element, Plain}
use Rattle.smt_arrays.specs.Operations.{truth}

-- the array at a place
abbrev pub array_at : List Element → ℕ → Element
array_at arrays place = get_or arrays place (truth false)

-- the place of the array that a value is
abbrev pub place_of_array : Value → Option ℕ
place_of_array (AbstractValue number) = array_place number
place_of_array _ = None

abbrev pub at_place : List Element → Value → Option ℕ → Element
at_place arrays value (Some place) = array_at arrays place
at_place arrays value None = Plain (element_of value)

-- the element that a value is among these arrays
abbrev pub element_in : List Element → Value → Element
element_in arrays value = at_place arrays value (place_of_array value)

-- a value that is an array is at a place before this one
abbrev pub IsBefore : ℕ → Option ℕ → Type 0
IsBefore count (Some place) = place < count
IsBefore count None = Unit {0}

-- there are so many arrays, and the value, if it is one, is among them
abbrev pub IsHeld : ℕ → Value → Type 0
IsHeld count value = IsBefore count (place_of_array value)

-- an array comes after these, and a value is it
abbrev pub IsAdded : List Element → List Element → Element → Value → Type 0
IsAdded before after array value = (after ≡ before ++ (array ∷ [])) × (place_of_array value ≡ Some (length before))

-- where an array is known, it comes after these, and a value is it; else nothing comes
abbrev pub IsAddedIfKnown : List Element → List Element → Option Element → Option Value → Type 0
IsAddedIfKnown before after None None = after ≡ before
IsAddedIfKnown before after (Some array) (Some value) = IsAdded before after array value
IsAddedIfKnown _ _ _ _ = ⊥

-- ---- values that may be open

abbrev pub known_at_place : List Element → Value → Option ℕ → Option Element
known_at_place arrays value (Some place) = slice_get arrays place
known_at_place arrays value None = Some (Plain (element_of value))

-- what an optional value says of an element, among these arrays: which it is, or nothing
abbrev pub known_in : List Element → Option Value → Option Element
known_in arrays None = None
known_in arrays (Some value) = known_at_place arrays value (place_of_array value)

abbrev pub all_known_in : List Element → List (Option Value) → List (Option Element)
all_known_in arrays values = map (known_in arrays) values

abbrev pub IsHeldIfKnown : ℕ → Option Value → Type 0
IsHeldIfKnown count None = Unit {0}
IsHeldIfKnown count (Some value) = IsHeld count value

-- those of these values that are arrays are among the first so many
abbrev pub AreHeld : ℕ → List (Option Value) → Type 0
AreHeld count values = All (IsHeldIfKnown count) values

-- arrays that are there stay
abbrev pub Grows : List Element → List Element → Type 0
Grows old new = (more : List Element) × (new ≡ old ++ more)
