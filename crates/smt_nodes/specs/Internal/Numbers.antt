-- The numbers that literals spell, as rows hold them, and the large ones behind the rows.
use Rattle.std.specs.Prelude.{◌≡◌, ℕ, List, Option, Some, None, option_map, slice_get}
use Rattle.smt_nodes.specs.declared.large.LargeNumber.{LargeNumber}
use Rattle.smt_nodes.specs.declared.rows.Stored.{Stored}
use Rattle.smt_nodes.specs.declared.rows.Stored.TheVariants.{Literal, Large}
use Rattle.smt_nodes.specs.declared.tables.Tables.{Tables}

abbrev pub large_of : Tables → List LargeNumber
large_of t = t.large.items

abbrev pub number_in : Option LargeNumber → Option ℕ
number_in (Some large) = large.number
number_in None = None

-- the number that is held of a literal; none of another node
abbrev pub held_number : List LargeNumber → Stored → Option ℕ
held_number large (Literal kind n number) = Some number
held_number large (Large kind n place) = number_in (slice_get large place)
held_number large _ = None

-- the place of a number that is large
abbrev pub place_in : Stored → Option ℕ
place_in (Large kind n place) = Some place
place_in _ = None

-- what a row of this number holds is this number, and where that is large, the row's own
pub record IsNumberHeld (large : List LargeNumber) (row : ℕ) (stored : Stored) (number : Option ℕ) : Type 0 where
  pub value : held_number large stored ≡ number
  pub own : (place : ℕ) → place_in stored ≡ Some place
      → option_map (λ x. x.row) (slice_get large place) ≡ Some row
