-- How far a scan of a text for what is open has come.
use Rattle.std.specs.Prelude.{◌≡◌, ◌<◌, ℕ, List, Some, false, length, slice_get, slice_index, if◌then◌else◌}
use Rattle.smt_text.specs.OpenPlaces.{IsBegun, IsOpenList}
use Rattle.smt_text.specs.Places.{depth_at, is_between, token_at}
use Rattle.smt_text.specs.declared.lexer.AtomState.{AtomState}
use Rattle.smt_text.specs.declared.unfinished.Scan.{Scan}

-- the text has this byte there
abbrev pub IsAt : List ℕ → ℕ → ℕ → Type 0
IsAt text byte place = slice_get text place ≡ Some byte

-- where the token begins to which the byte at the place belongs
abbrev pub beginning_of : AtomState → ℕ → ℕ → ℕ
beginning_of token begun place = if is_between token then place else begun

-- the lists that are open there begin at these places, the outermost first
pub record IsStack (text : List ℕ) (place : ℕ) (lists : List ℕ) : Type 0 where
  pub depth : length lists ≡ depth_at text place
  pub opened : (i : ℕ) → i < length lists
      → IsOpenList text place (slice_index lists i) × (depth_at text (slice_index lists i) ≡ i)

-- the text was scanned up to the place
pub record IsScan (text : List ℕ) (place : ℕ) (scan : Scan) : Type 0 where
  pub token : scan.token ≡ token_at text place
  pub begun : is_between (token_at text place) ≡ false → IsBegun text place scan.begun
  pub lists : IsStack text place scan.lists.items
