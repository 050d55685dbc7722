-- The table of terms that a library holds, where labels may have been given.
use Rattle.std.specs.Prelude.{◌≡◌, ◌<◌, ◌-◌, ℕ, List, [], ◌∷◌, ◌++◌, Some, length, map, slice_get, false}
use Rattle.smt_names.specs.Entries.{entries_of}
use Rattle.smt_nodes.specs.Node.{Row}
use Rattle.smt_nodes.specs.Nodes.{rows_of}
use Rattle.smt_nodes.specs.declared.table.Nodes.{Nodes}
use Rattle.smt_theory.specs.Operators.{is_plain_operator}
use Rattle.smt_theory.specs.Words.{look_up}
use Rattle.smt_trees.specs.View.{sexp_of}
use Rattle.smt_terms.specs.Denotes.{Denotes, Head, Slots, Table}
use Rattle.smt_terms.specs.Internal.DraftView.{inside, seen_by}
use Rattle.smt_terms.specs.Internal.LibraryView.{elements_of_library}
use Rattle.smt_terms.specs.declared.labels.Label.{Label}
use Rattle.smt_terms.specs.declared.library.Definition.{Definition}
use Rattle.smt_terms.specs.declared.library.Entry.{Entry}
use Rattle.smt_terms.specs.declared.library.Found.{Found}
use Rattle.smt_terms.specs.declared.library.Found.TheVariants as place
use Rattle.smt_terms.specs.declared.library.Library.{Library}
use Rattle.smt_terms.specs.declared.library.draft.Draft.{Draft}

-- where a name stands, and how many arguments it takes
abbrev pub head_of : Entry → Head
head_of e = record { place = e.place; arity = length e.parameters.items }

-- the names in order, with where they stand, and how many arguments they take
abbrev pub heads_of_library : Library → List (List ℕ × Head)
heads_of_library library = map (λ p. (p.0, head_of p.1)) (entries_of library.names)

-- the names of definitions, in order
abbrev pub names_of_definitions : List Definition → List (List ℕ)
names_of_definitions definitions = map (λ d. d.name.items) definitions

abbrev pub table_of : Library → Table
table_of library = record {
  theories = library.sorts.theories;
  elements = elements_of_library library;
  heads = heads_of_library library;
  names = names_of_definitions library.definitions.items;
  bodies = library.bodies.items;
  rows = rows_of library.nodes;
}

-- the same with these nodes, where the labels that were given are definitions behind the library's
abbrev pub table_with : Library → List Label → List Row → Table
table_with library given rows = record (table_of library) {
  names = names_of_definitions library.definitions.items ++ map (λ l. l.name.items) given;
  bodies = library.bodies.items ++ map (λ l. l.node) given;
  rows = rows;
}

-- the nodes of a table, and those of a draft behind them
abbrev pub rows_behind : Nodes → Draft → List Row
rows_behind before draft = rows_of before ++ rows_of draft.nodes

abbrev pub rows_in : Library → Draft → List Row
rows_in library draft = rows_behind library.nodes draft

-- that of a draft
abbrev pub table_in : Library → Draft → Table
table_in library draft = table_with library draft.labels.given.items (rows_in library draft)

-- a definition has a body among the nodes
abbrev pub HasBody : Table → Found → Type 0
HasBody t (place.Declared n) = Unit {0}
HasBody t (place.Defined n) = (j : ℕ) × (slice_get t.bodies n ≡ Some j) × (j < length t.rows)

-- no name is a plain operator's, and each that is defined has a body among the nodes
pub record IsReady (t : Table) : Type 0 where
  pub free : (x : List ℕ) (head : Head) → look_up t.heads x ≡ Some head
      → is_plain_operator t.theories x ≡ false
  pub bodied : (x : List ℕ) (head : Head) → look_up t.heads x ≡ Some head → HasBody t head.place

-- the node of each label stands for its term
abbrev pub AreNamed : Table → List Label → Type 0
AreNamed t [] = Unit {0}
AreNamed t (l ∷ ls) = Denotes t [] 0 0 l.node (sexp_of l.body) × AreNamed t ls

-- the variables that are bound inside, with their places in the frame of the innermost labelled term; and how
-- many they are
abbrev pub slots_seen : Draft → Slots
slots_seen draft = map (λ v. (v.0, v.1.place - draft.base)) (inside draft.base (seen_by draft))

abbrev pub places_seen : Draft → ℕ
places_seen draft = length (seen_by draft) - draft.base
