-- Words of what the code ensures. No part of any claim: they tie the code to the definitions.
use Rattle.std.specs.Prelude.{◌≡◌, ◌<◌, ℕ, zero, suc, List, [], ◌∷◌, Bool, true, false, Option, Some, None, length, map}
use Rattle.std.specs.Prelude.{is_some, min, if◌then◌else◌}
use Rattle.smt_theory.specs.declared.op.CoreOp.TheVariants.{Equal, Distinct}
use Rattle.smt_theory.specs.declared.op.Op.{Op}
use Rattle.smt_theory.specs.declared.op.Op.TheVariants.{Core, Arrays}
use Rattle.smt_values.specs.Element as plain
use Rattle.smt_values.specs.Element.{element_of}
use Rattle.smt_values.specs.ElementNumbers.{array_place}
use Rattle.smt_values.specs.declared.value.Value.{Value}
use Rattle.smt_values.specs.declared.value.Value.TheVariants.{Bool as BoolValue}
use Rattle.smt_arrays.specs.Element.{Element, Plain}
use Rattle.smt_arrays.specs.Known.{known_same, known_same_by, size}
use Rattle.smt_arrays.specs.Reading.{indexes, is_same_plain}
use Rattle.smt_arrays.specs.Tables.{Grows, IsHeldIfKnown, array_at, element_in, known_in, place_of_array}

-- ---- values that are no arrays

-- what is known of an element, but open where it is the number of an array
abbrev pub unless_array : Option plain.Element → Option plain.Element
unless_array (Some (plain.Abstract name)) = if is_some (array_place name) then None else Some (plain.Abstract name)
unless_array known = known

-- whether an operator takes values alone: where there are no arrays, or in any case
abbrev pub takes_values : Bool → Op → Bool
takes_values without_arrays (Arrays op) = false
takes_values without_arrays (Core Equal) = without_arrays
takes_values without_arrays (Core Distinct) = without_arrays
takes_values without_arrays _ = true

-- ---- arguments that are all known

abbrev pub value_or : Option Value → Value
value_or (Some value) = value
value_or None = BoolValue false

abbrev pub elements_in : List Element → List (Option Value) → List Element
elements_in arrays args = map (λ arg. element_in arrays (value_or arg)) args

-- ---- sameness

-- whether both are so
abbrev pub both : Option Bool → Option Bool → Option Bool
both (Some false) found = Some false
both (Some true) found = found
both None (Some false) = Some false
both None _ = None

-- whether elements are known to be the same that are arrays in arrays so deep
abbrev pub known_same_in : ℕ → Element → Element → Option Bool
known_same_in zero a b = Some (is_same_plain a b)
known_same_in (suc depth) a b = known_same_by (known_same_in depth) a b

-- whether an element is known to be the same as the first of these, if there is one
abbrev pub next_same : Element → List Element → Option Bool
next_same a [] = Some true
next_same a (b ∷ rest) = known_same a b

abbrev pub first_of : List Element → Option Element
first_of [] = None
first_of (e ∷ es) = Some e

-- the size of an array, as far as it counts
abbrev pub size_up_to_limit : Element → ℕ
size_up_to_limit e = min (size e) 257

-- how much of each array counts
abbrev pub sizes_of : List Element → List ℕ
sizes_of arrays = map size_up_to_limit arrays

-- the array at a place was last written at an index, and is an earlier one elsewhere
abbrev pub IsLastWrite : List Element → ℕ → ℕ → Value → Type 0
IsLastWrite arrays place array index =
    (indexes (array_at arrays place) ≡ Plain (element_of index) ∷ indexes (array_at arrays array))
    × (array < place) × (place_of_array index ≡ None)

abbrev pub is_array_value : Option Value → Bool
is_array_value None = false
is_array_value (Some value) = is_some (place_of_array value)

-- a value says this of an element, among arrays of which the older ones come first
abbrev pub IsKnownIn : List Element → List Element → Option Element → Option Value → Type 0
IsKnownIn old new known value = (known_in new value ≡ known) × IsHeldIfKnown (length new) value × Grows old new
