-- What arrays are made of, one after the other.
use Rattle.std.specs.Prelude.{◌≡◌, ◌<◌, ℕ, suc, List, [], ◌∷◌, ◌++◌, None}
use Rattle.smt_values.specs.Element.{element_of}
use Rattle.smt_arrays.specs.Element.{Element, Plain, Filled, Written}
use Rattle.smt_arrays.specs.Tables.{IsHeld, array_at, element_in, place_of_array}
use Rattle.smt_arrays.specs.declared.arrays.Cell.{Cell}
use Rattle.smt_arrays.specs.declared.arrays.Cell.TheVariants.{Filled as FilledCell, Written as WrittenCell}

-- the array that is made of a cell, among these
abbrev pub made : List Element → Cell → Element
made arrays (FilledCell element) = Filled (element_in arrays element)
made arrays (WrittenCell array index element) = Written (array_at arrays array) (Plain (element_of index))
    (element_in arrays element)

-- these arrays, and then those of the cells
abbrev pub followed : List Element → List Cell → List Element
followed arrays [] = arrays
followed arrays (cell ∷ cells) = followed (arrays ++ (made arrays cell ∷ [])) cells

abbrev pub arrays_of : List Cell → List Element
arrays_of cells = followed [] cells

-- what a cell names is before it
abbrev pub IsOlder : ℕ → Cell → Type 0
IsOlder count (FilledCell element) = IsHeld count element
IsOlder count (WrittenCell array index element) = (array < count) × (place_of_array index ≡ None) × IsHeld count element

abbrev pub AreOlder : ℕ → List Cell → Type 0
AreOlder count [] = Unit {0}
AreOlder count (cell ∷ cells) = IsOlder count cell × AreOlder (suc count) cells
