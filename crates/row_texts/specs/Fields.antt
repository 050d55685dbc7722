-- What several kinds of rows ask of a field.
use Rattle.std.specs.Prelude.{ℕ, List, ◌++◌, Bool, true, false, Option, Some, None, codes, if◌then◌else◌}
use Rattle.std.specs.Fmt.{decimal}
use Rattle.std.specs.Str.{bytes_eq}

-- the start that a text names; `None` for any other text
abbrev pub start_named : List ℕ → Option Bool
start_named text =
    if bytes_eq text (codes "on") then Some true else if bytes_eq text (codes "off") then Some false else None

-- the error of a field that can't stand in its row
abbrev pub refusal : (line : ℕ) → (key : List ℕ) → List ℕ
refusal line key = codes "line " ++ (decimal line ++ (codes ": `" ++ (key ++ codes "` can't stand here")))
