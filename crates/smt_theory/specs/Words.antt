-- General words, for this crate and those above it.
use Rattle.std.specs.Prelude.{ℕ, List, [], ◌∷◌, Bool, Option, Some, None, Result, Ok, Err, bytes_eq, if◌then◌else◌}
use Rattle.std.specs.Bool.{then_some}

-- what a name stands for in a list of names with what they stand for: the first of that name
abbrev pub look_up : {A : Type 0} → List (List ℕ × A) → List ℕ → Option A
look_up [] name = None
look_up (pair ∷ pairs) name = if bytes_eq name pair.0 then Some pair.1 else look_up pairs name

-- what comes of a first answer, or its fault
abbrev pub result_and_then : {A B F : Type 0} → Result A F → (A → Result B F) → Result B F
result_and_then (Ok x) next = next x
result_and_then (Err fault) next = Err fault

-- what passes a test
abbrev pub if_passes : {A : Type 0} → (A → Bool) → Option A → Option A
if_passes test None = None
if_passes test (Some x) = then_some (test x) x

-- the operator that a name can be, if that is its name
abbrev pub if_named : {O : Type 0} → (O → List ℕ) → List ℕ → Option O → Option O
if_named name symbol None = None
if_named name symbol (Some op) = then_some (bytes_eq symbol (name op)) op
