-- Names of which none may stand twice.
use Rattle.std.specs.Prelude.{ℕ, suc, List, [], ◌∷◌, ◌++◌, Option, Some, None, option_map, if◌then◌else◌}
use Rattle.smt_forms.specs.Variables.{is_among}

-- the place, from 0, of the first of these names that is an earlier one or one of those before them
abbrev pub repeated_behind : List (List ℕ) → List (List ℕ) → Option ℕ
repeated_behind earlier [] = None
repeated_behind earlier (x ∷ xs) =
    if is_among earlier x then Some 0 else option_map suc (repeated_behind (earlier ++ x ∷ []) xs)
