-- The positions of a text that are kept.
use Rattle.std.specs.Prelude.{◌≡◌, ℕ, ◌*◌, List, Some, slice_get, take}
use Rattle.smt_text.specs.Positions.{position_after}
use Rattle.smt_text.specs.declared.position.Position.{Position}

-- one is kept for each so many bytes
abbrev pub stride : ℕ
stride = 4096

-- those of the bytes at multiples of this number, from the first on
abbrev pub AreKnown : (text : List ℕ) → List Position → Type 0
AreKnown text known = (i : ℕ) (p : Position) → slice_get known i ≡ Some p → p ≡ position_after (take (i * stride) text)
