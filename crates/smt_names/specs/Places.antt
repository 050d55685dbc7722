-- The place of a name in a list.
use Rattle.std.specs.Prelude.{◌≡◌, ◌<◌, length, slice_index_or}
use Rattle.std.specs.Prelude.{ℕ, suc, List, [], ◌∷◌, ◌++◌, Option, Some, None, bytes_eq, is_some}
use Rattle.std.specs.Prelude.{if◌then◌else◌}
use Rattle.std.specs.Option.{option_or}

-- the place of the last of these names that is this one, where the first of them stands at this place
abbrev pub place_from : ℕ → List (List ℕ) → List ℕ → Option ℕ
place_from at [] name = None
place_from at (x ∷ xs) name =
    option_or (place_from (suc at) xs name) (if bytes_eq name x then Some at else None)

-- the place, from 0, of this name
abbrev pub place_of : List (List ℕ) → List ℕ → Option ℕ
place_of names name = place_from 0 names name

-- these names, and behind them this one, if it is none of them
abbrev pub with_name : List (List ℕ) → List ℕ → List (List ℕ)
with_name names name = if is_some (place_of names name) then names else names ++ name ∷ []

-- no name stands twice
abbrev pub AreDistinct : List (List ℕ) → Type 0
AreDistinct names = (k : ℕ) → k < length names → place_of names (slice_index_or names k []) ≡ Some k
