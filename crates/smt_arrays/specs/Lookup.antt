-- Words on how arrays are looked up: by a diagram from the numbers of indexes to the numbers of elements. No part of
-- any claim.
use Rattle.std.specs.Prelude.{◌≡◌, ◌<◌, ◌^◌, ◌==◌, ℕ, List, [], ◌∷◌, Bool, true, false}
use Rattle.std.specs.Prelude.{not, ◌&&◌, Option, Some, None, length, slice_get}
use Rattle.smt_diagrams.specs.Diagram.{IsDiagram, element_at}
use Rattle.smt_diagrams.specs.declared.diagram.Diagram.{Diagram}
use Rattle.smt_diagrams.specs.declared.diagram.Fork.{Fork}
use Rattle.smt_values.specs.Element as plain
use Rattle.smt_arrays.specs.Cells.{arrays_of}
use Rattle.smt_arrays.specs.Element.{Element, Plain, Filled, Written, is_array}
use Rattle.smt_arrays.specs.Elements.{AreDistinct, number_of, value_at}
use Rattle.smt_arrays.specs.Reading.{default_of, indexes, read}
use Rattle.smt_arrays.specs.Tables.{IsHeld, array_at, element_in}
use Rattle.smt_arrays.specs.declared.arrays.Cell.{Cell}
use Rattle.smt_arrays.specs.declared.elements.Key.{Key}
use Rattle.smt_arrays.specs.declared.lookup.Kind.{Kind}
use Rattle.smt_arrays.specs.declared.lookup.Kind.TheVariants.{Truths, Integers, Vectors}
use Rattle.smt_arrays.specs.declared.lookup.Lookups.{Lookups}
use Rattle.smt_arrays.specs.declared.lookup.Table.{Table}

-- ---- the numbers of indexes

abbrev pub is_of_kind : Kind → plain.Element → Bool
is_of_kind Truths (plain.Truth b) = true
is_of_kind Integers (plain.Integer z) = true
is_of_kind (Vectors width) (plain.Vector v) = v.width == width
is_of_kind _ _ = false

abbrev pub bits_of : Kind → ℕ
bits_of Truths = 1
bits_of Integers = 128
bits_of (Vectors width) = width

-- an index of a kind, and its number has room
abbrev pub IsIndex : Kind → plain.Element → Type 0
IsIndex kind i = (is_of_kind kind i ≡ true) × (number_of i < 2 ^ bits_of kind)

abbrev pub AreIndexes : Kind → List Element → Type 0
AreIndexes kind [] = Unit {0}
AreIndexes kind (Plain i ∷ js) = IsIndex kind i × AreIndexes kind js
AreIndexes kind _ = ⊥

-- ---- tables

-- an element is the one of this number
pub record IsFound (cells : List Cell) (elements : List Key) (number : ℕ) (e : Element) : Type 0 where
  pub within : number < length elements
  pub held : IsHeld (length cells) (value_at elements number)
  pub same : element_in (arrays_of cells) (value_at elements number) ≡ e

-- no element of an array is an array
abbrev pub is_flat : Element → Bool
is_flat (Written a i e) = is_flat a && not (is_array e)
is_flat (Filled e) = not (is_array e)
is_flat (Plain e) = true

-- a table of a kind serves this one; that of an array that is written nowhere serves each
abbrev pub IsServed : Option Kind → Kind → Type 0
IsServed None kind = Unit {0}
IsServed (Some own) kind = own ≡ kind

-- an array is written at indexes of a kind alone, and a diagram has for each the number of what the array has there
pub record IsDiagramOf (cells : List Cell) (elements : List Key) (forks : List Fork) (a : Element) (kind : Kind)
    (d : Diagram) : Type 0 where
  pub written : AreIndexes kind (indexes a)
  pub diagram : IsDiagram forks (bits_of kind) d
  pub found : (i : plain.Element) → IsIndex kind i
      → IsFound cells elements (element_at forks (bits_of kind) d (number_of i)) (read a (Plain i))

-- the table of an array
pub record IsTable (cells : List Cell) (elements : List Key) (forks : List Fork) (a : Element) (table : Table)
    : Type 0 where
  pub serves : (kind : Kind) → IsServed table.kind kind → IsDiagramOf cells elements forks a kind table.diagram
  pub other : IsFound cells elements table.default (default_of a)
  pub flat : table.is_flat ≡ true → is_flat a ≡ true

abbrev pub IsTableIfAny : List Cell → List Key → List Fork → Element → Option Table → Type 0
IsTableIfAny cells elements forks a None = Unit {0}
IsTableIfAny cells elements forks a (Some table) = IsTable cells elements forks a table

-- each array that has a table has its own
pub record AreTables (cells : List Cell) (elements : List Key) (forks : List Fork) (tables : List (Option Table))
    : Type 0 where
  pub distinct : AreDistinct elements
  pub count : length tables ≡ length cells
  pub each : (place : ℕ) (table : Table) → slice_get tables place ≡ Some (Some table)
      → IsTable cells elements forks (array_at (arrays_of cells) place) table

abbrev pub AreLookups : List Cell → Lookups → Type 0
AreLookups cells l = AreTables cells l.elements l.diagrams l.tables.items
