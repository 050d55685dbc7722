-- What a library holds, as plain lists, and its beginnings.
use Rattle.std.specs.Prelude.{◌≡◌, ◌≤◌, ℕ, List, ◌++◌, length, map, max, Option, take}
use Rattle.smt_theory.specs.Sort.{Sort}
use Rattle.smt_theory.specs.declared.theories.Theories.{Theories}
use Rattle.smt_nodes.specs.Node.{Row}
use Rattle.smt_nodes.specs.Nodes.{rows_of}
use Rattle.smt_terms.specs.Denotes.{AreApart, Head, Table}
use Rattle.smt_terms.specs.Ends.{end_of}
use Rattle.smt_terms.specs.Internal.LibraryView.{abbreviations_of, elements_of_library, ranks_of_library}
use Rattle.smt_terms.specs.Internal.TableView.{heads_of_library, names_of_definitions}
use Rattle.smt_terms.specs.Signature.{Rank}
use Rattle.smt_terms.specs.Elements.{ElementNames}
use Rattle.smt_terms.specs.declared.named_sort.NamedSort.{NamedSort}
use Rattle.smt_terms.specs.declared.library.Declared.{Declared}
use Rattle.smt_terms.specs.declared.library.Definition.{Definition}
use Rattle.smt_terms.specs.declared.library.Library.{Library}
use Rattle.smt_terms.specs.declared.library.marks.Mark.{Mark}

-- a declared name: its place among all names, its rank, and its command
pub record Declaration : Type 0 where
  pub name : ℕ
  pub parameters : List Sort
  pub sort : Sort
  pub command : ℕ

abbrev pub declaration_view : Declared → Declaration
declaration_view d =
    record { name = d.name; parameters = d.params.items; sort = d.result; command = d.command }

-- the theories, and what terms may name elements by; the names of sorts, and the names with their ranks and
-- with where they stand; the declarations, the definitions and the nodes of their bodies; the nodes of terms; each
-- in the order in which they came
pub record Contents : Type 0 where
  pub theories : Theories
  pub elements : Option ElementNames
  pub abbreviations : List (List ℕ × NamedSort)
  pub ranks : List (List ℕ × Rank)
  pub heads : List (List ℕ × Head)
  pub declared : List Declaration
  pub definitions : List Definition
  pub bodies : List ℕ
  pub rows : List Row

abbrev pub contents_of : Library → Contents
contents_of library = record {
  theories = library.sorts.theories;
  elements = elements_of_library library;
  abbreviations = abbreviations_of library.sorts;
  ranks = ranks_of_library library;
  heads = heads_of_library library;
  declared = map declaration_view library.declared.items;
  definitions = library.definitions.items;
  bodies = library.bodies.items;
  rows = rows_of library.nodes;
}

-- the table of terms that contents hold
abbrev pub terms_in : Contents → Table
terms_in c = record {
  theories = c.theories;
  elements = c.elements;
  heads = c.heads;
  names = names_of_definitions c.definitions;
  bodies = c.bodies;
  rows = c.rows;
}

-- ---- beginnings

-- the first so many of each: of the bodies as many as of the definitions
abbrev pub first_of : Mark → Contents → Contents
first_of mark c = record {
  theories = c.theories;
  elements = c.elements;
  abbreviations = take mark.abbreviations c.abbreviations;
  ranks = take mark.names c.ranks;
  heads = take mark.names c.heads;
  declared = take mark.declared c.declared;
  definitions = take mark.definitions c.definitions;
  bodies = take mark.definitions c.bodies;
  rows = take mark.nodes c.rows;
}

-- the first so many nodes, and those that the bodies of definitions need
abbrev pub needed_of : ℕ → Contents → Contents
needed_of count c = record c { rows = take (max count (end_of c.bodies)) c.rows }

-- there are so many of each
pub record IsWithin (mark : Mark) (c : Contents) : Type 0 where
  pub abbreviations : mark.abbreviations ≤ length c.abbreviations
  pub ranks : mark.names ≤ length c.ranks
  pub heads : mark.names ≤ length c.heads
  pub declared : mark.declared ≤ length c.declared
  pub definitions : mark.definitions ≤ length c.definitions
  pub bodies : mark.definitions ≤ length c.bodies
  pub rows : mark.nodes ≤ length c.rows

-- the first mark counts no more of any than the second
pub record IsBelow (mark later : Mark) : Type 0 where
  pub abbreviations : mark.abbreviations ≤ later.abbreviations
  pub names : mark.names ≤ later.names
  pub declared : mark.declared ≤ later.declared
  pub definitions : mark.definitions ≤ later.definitions
  pub nodes : mark.nodes ≤ later.nodes

-- the second contents are the first, and perhaps more of each behind them; no name that is new is an element's
pub record Extends (c d : Contents) : Type 0 where
  pub theories : d.theories ≡ c.theories
  pub elements : d.elements ≡ c.elements
  pub abbreviations : (more : List (List ℕ × NamedSort)) × (d.abbreviations ≡ c.abbreviations ++ more)
  pub ranks : (more : List (List ℕ × Rank)) × (d.ranks ≡ c.ranks ++ more)
  pub heads : (more : List (List ℕ × Head)) × (d.heads ≡ c.heads ++ more)
  pub apart : AreApart c.elements c.heads d.heads
  pub declared : (more : List Declaration) × (d.declared ≡ c.declared ++ more)
  pub definitions : (more : List Definition) × (d.definitions ≡ c.definitions ++ more)
  pub bodies : (more : List ℕ) × (d.bodies ≡ c.bodies ++ more)
  pub rows : (more : List Row) × (d.rows ≡ c.rows ++ more)
