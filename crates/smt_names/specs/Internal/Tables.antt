-- The names of a table.
use Rattle.std.specs.Prelude.{ℕ, List, [], Option, Some, None}
use Rattle.std.specs.Global.{Box}

-- none, where there is no table
abbrev pub names_of : Option (Box (List (List ℕ))) → List (List ℕ)
names_of None = []
names_of (Some table) = table.value
