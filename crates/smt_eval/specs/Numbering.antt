-- Elements of declared sorts under their numbers instead of their names: the list of a name's number alone stands for
-- the name.
use Rattle.std.specs.Prelude.{ℕ, List, [], ◌∷◌, Option, Some, None, option_map}
use Rattle.smt_names.specs.Places.{place_of}
use Rattle.smt_arrays.specs.Element.{Element}
use Rattle.smt_eval.specs.Renaming.{Renaming, renamed}

-- of a name with this place, or of one without: a list that is no number's
abbrev pub number_name : List ℕ → Option ℕ → List ℕ
number_name x (Some place) = place ∷ []
number_name x None = 0 ∷ 0 ∷ x

-- the other name of each name, where these have numbers
abbrev pub numbering : List (List ℕ) → Renaming
numbering names x = number_name x (place_of names x)

-- what is known of an element, under its number
abbrev pub in_numbers : List (List ℕ) → Option Element → Option Element
in_numbers names known = option_map (renamed (numbering names)) known
