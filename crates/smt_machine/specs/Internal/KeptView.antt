-- What a contract sees of the values that are kept.
use Rattle.std.specs.Prelude.{ℕ, List, ◌==◌, Option, Some, None, if◌then◌else◌, slice_get}
use Rattle.smt_values.specs.declared.value.Value.{Value}
use Rattle.smt_machine.specs.declared.kept.Found.{Found}
use Rattle.smt_machine.specs.declared.kept.Kept.{Kept}

-- the value that was found, if it is that of this number
abbrev pub found_for : Option Found → ℕ → Option (Option Value)
found_for None number = None
found_for (Some found) number = if found.number == number then Some found.value else None

-- the value at a place among those that were found, if it is that of this number
abbrev pub found_at : List Found → ℕ → ℕ → Option (Option Value)
found_at found place number = found_for (slice_get found place) number

abbrev pub found_by : List Found → Option ℕ → ℕ → Option (Option Value)
found_by found None number = None
found_by found (Some place) number = found_at found place number

-- what is kept for a number
unfoldable pub kept_at : Kept → ℕ → Option (Option Value)
kept_at kept number = found_by kept.found.items (slice_get kept.places.items number) number
