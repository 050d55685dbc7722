-- Nodes with annotations round them, as rows hold them: what is stored for the node itself is behind the rows.
use Rattle.std.specs.Prelude.{◌≡◌, ℕ, List, Option, Some, None, option_map, slice_get}
use Rattle.smt_nodes.specs.declared.annotated.AnnotatedNode.{AnnotatedNode}
use Rattle.smt_nodes.specs.declared.rows.Stored.{Stored}
use Rattle.smt_nodes.specs.declared.rows.Stored.TheVariants.{Annotated, Slot}
use Rattle.smt_nodes.specs.declared.tables.Tables.{Tables}

abbrev pub annotated_of : Tables → List AnnotatedNode
annotated_of t = t.annotated.items

abbrev pub stored_in : Option AnnotatedNode → Stored
stored_in (Some x) = x.stored
-- of no use: no row names such a place
stored_in None = Slot 0

-- what is stored for the node itself
abbrev pub inner : List AnnotatedNode → Stored → Stored
inner nodes (Annotated place around) = stored_in (slice_get nodes place)
inner nodes stored = stored

-- how many annotations are round it
abbrev pub around_of : Stored → ℕ
around_of (Annotated place around) = around
around_of _ = 0

-- its place among the nodes with annotations
abbrev pub annotated_in : Stored → Option ℕ
annotated_in (Annotated place around) = Some place
annotated_in _ = None

-- what a row of this number names among these nodes is its own
abbrev pub IsOwn : List AnnotatedNode → ℕ → Stored → Type 0
IsOwn nodes row stored = (place : ℕ) → annotated_in stored ≡ Some place
    → option_map (λ x. x.row) (slice_get nodes place) ≡ Some row

-- a row of this number stores so a node of which this is stored, with so many annotations round it
pub record IsAnnotated (nodes : List AnnotatedNode) (row : ℕ) (bare : Stored) (count : ℕ)
    (stored : Stored) : Type 0 where
  pub node : inner nodes stored ≡ bare
  pub around : around_of stored ≡ count
  pub own : IsOwn nodes row stored
