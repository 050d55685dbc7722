-- The rows as they are stored, what they stand for, and what every table keeps.
use Rattle.std.specs.Prelude.{◌≡◌, ◌≤◌, ◌-◌, ℕ, List, length, map, Option, Some, None, slice_get}
use Rattle.smt_nodes.specs.Internal.Annotations.{IsOwn, around_of, inner}
use Rattle.smt_nodes.specs.Internal.Lists.{IsHeld, IsUpTo, Lists, lengths, node_of}
use Rattle.smt_nodes.specs.Internal.Numbers.{IsNumberHeld}
use Rattle.smt_nodes.specs.Literals.{spelled}
use Rattle.smt_nodes.specs.Node.{Row}
use Rattle.smt_nodes.specs.declared.annotated.AnnotatedNode.{AnnotatedNode}
use Rattle.smt_nodes.specs.declared.large.LargeNumber.{LargeNumber}
use Rattle.smt_nodes.specs.declared.rows.Ends.{Ends}
use Rattle.smt_nodes.specs.declared.rows.StoredRow.{StoredRow}

abbrev pub row_view : Lists → List AnnotatedNode → StoredRow → Row
row_view t nodes row = record {
  node = node_of t row.ends (inner nodes row.stored);
  around = around_of row.stored;
}

abbrev pub views : List StoredRow → Lists → List AnnotatedNode → List Row
views rows t nodes = map (row_view t nodes) rows

-- what every table keeps: a row takes no more than there is up to its end, what it names among the nodes with
-- annotations is its own, and it reaches no further than the rows behind it and the lists
pub record IsSound (rows : List StoredRow) (t : Lists) (nodes : List AnnotatedNode) : Type 0 where
  pub held : (i : ℕ) (r : StoredRow) → slice_get rows i ≡ Some r → IsHeld r.ends (inner nodes r.stored)
  pub own : (i : ℕ) (r : StoredRow) → slice_get rows i ≡ Some r → IsOwn nodes i r.stored
  pub ordered : (i j : ℕ) (r s : StoredRow) → i ≤ j → slice_get rows i ≡ Some r → slice_get rows j ≡ Some s
      → IsUpTo r.ends s.ends
  pub within : (i : ℕ) (r : StoredRow) → slice_get rows i ≡ Some r → IsUpTo r.ends (lengths t)

-- each row holds the number that its literal spells
abbrev pub AreNumbered : List StoredRow → Lists → List LargeNumber → List AnnotatedNode → Type 0
AreNumbered rows t large nodes = (i : ℕ) (r : StoredRow) → slice_get rows i ≡ Some r
    → IsNumberHeld large i (inner nodes r.stored) (spelled (node_of t r.ends (inner nodes r.stored)))

abbrev pub ends_in : Option StoredRow → Ends
ends_in (Some row) = row.ends
ends_in None = record { parts = 0; digits = 0; ops = 0 }

-- how far the last row reaches
abbrev pub last_ends : List StoredRow → Ends
last_ends rows = ends_in (slice_get rows (length rows - 1))
