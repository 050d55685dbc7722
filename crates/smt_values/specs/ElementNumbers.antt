-- Elements of declared sorts by numbers. Where names are counted, each name once, the list of a name's number alone
-- stands for the name: so an element is known by its number, and two are the same where their numbers are.
use Rattle.std.specs.Prelude.{ℕ, ◌-◌, ◌^◌, List, [], ◌∷◌, Option, Some, None, nat_lt, option_map, if◌then◌else◌}
use Rattle.smt_names.specs.Places.{place_of}
use Rattle.smt_values.specs.Element.{Element, Abstract}

-- the element of a number
abbrev pub numbered : ℕ → Element
numbered number = Abstract (number ∷ [])

-- the element of a name, where these are the names; open where it is none of them
abbrev pub numbered_in : List (List ℕ) → List ℕ → Option Element
numbered_in names name = option_map numbered (place_of names name)

-- the number that is an element's of a declared sort
abbrev pub declared_number : List ℕ → Option ℕ
declared_number [] = None
declared_number (number ∷ rest) = if nat_lt number (2 ^ 32) then Some number else None

-- the place of an array, whose number is above all those
abbrev pub array_place : List ℕ → Option ℕ
array_place [] = None
array_place (number ∷ rest) = if nat_lt number (2 ^ 32) then None else Some (number - 2 ^ 32)
