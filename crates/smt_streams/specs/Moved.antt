-- What a call of a source or a sink says that it moved.
use Rattle.std.specs.Prelude.{ℕ, ◌<◌, List, length, take, Bool, false, Option, Result, Ok, Err, nat_eq}
use Rattle.std.specs.Io.KnownBytes.{Appends}

-- how many bytes a call moved: a call that failed moved none
abbrev pub moved : {E : Type 0} → Result ℕ E → ℕ
moved (Ok count) = count
moved (Err error) = 0

-- a pull tells the end by 0 bytes
abbrev pub tells_end : {E : Type 0} → Result ℕ E → Bool
tells_end (Ok count) = nat_eq count 0
tells_end (Err error) = false

-- a sink took some of the bytes, from the front, and not all
abbrev pub TakesPart : Option (List ℕ) → Option (List ℕ) → List ℕ → Type 0
TakesPart before after bytes = (count : ℕ) × (count < length bytes) × Appends before after (take count bytes)
