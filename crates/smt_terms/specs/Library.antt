-- What a library stands for: a signature, with its declarations and definitions, and terms by the numbers of
-- their nodes.
use Rattle.std.specs.Prelude.{◌≡◌, ℕ, ◌+◌, List, [], ◌∷◌, ◌++◌, Some, length}
use Rattle.std.specs.Prelude.{map, slice_get}
use Rattle.smt_nodes.specs.Node.{Row}
use Rattle.smt_nodes.specs.Nodes.{names_of, rows_of}
use Rattle.smt_trees.specs.Sexp.{Sexp}
use Rattle.smt_terms.specs.Contents.{Contents, Declaration, contents_of, terms_in}
use Rattle.smt_terms.specs.Denotes.{Denotes, Table}
use Rattle.smt_terms.specs.Internal.LibraryView.{elements_lent, elements_of_library, ranks_of_library}
use Rattle.smt_terms.specs.Signature as signature
pub use Rattle.smt_terms.specs.Signature.{declared_among, defined_among, is_declared}
use Rattle.smt_terms.specs.Signature.{AreDistinct, Entry, Origin, Signature, ranks_of}
use Rattle.smt_terms.specs.declared.library.Definition.{Definition}
use Rattle.smt_terms.specs.declared.library.Found.{Found}
use Rattle.smt_terms.specs.declared.library.Found.TheVariants as place
use Rattle.smt_terms.specs.TermsOf.{AreTermsOf}
use Rattle.smt_terms.specs.declared.library.Library.{Library}

-- ---- terms

-- the node of this number among contents stands for the term
abbrev pub IsTermOf : Contents → ℕ → Sexp → Type 0
IsTermOf c id t = Denotes (terms_in c) [] 0 0 id t

-- the nodes of the transient terms, which a library does not hold
abbrev pub transient_of : Library → List Row
transient_of library = rows_of library.transient

-- the table of the terms that a library holds
abbrev pub held_terms_of : Library → Table
held_terms_of library = terms_in (contents_of library)

-- the table of a library's terms: the transient ones stand behind those that it holds
abbrev pub terms_of : Library → Table
terms_of library =
    record (held_terms_of library) { rows = rows_of library.nodes ++ transient_of library }

-- the names of the elements of declared sorts among these terms, each once: an element's number is the place of its
-- name
abbrev pub element_names_of : Library → List (List ℕ)
element_names_of library = names_of library.nodes

abbrev pub IsTerm : Library → ℕ → Sexp → Type 0
IsTerm library id t = Denotes (terms_of library) [] 0 0 id t

-- ---- declared and defined names

abbrev pub declaration_at : ℕ → Entry → Origin → List Declaration
declaration_at place e (signature.Declared command) =
    record { name = place; parameters = e.parameters; sort = e.sort; command = command } ∷ []
declaration_at place e (signature.Defined parameters body) = []

-- the declarations among entries, the first of which has this place, in order
abbrev pub declarations_from : ℕ → List Entry → List Declaration
declarations_from place [] = []
declarations_from place (e ∷ es) = declaration_at place e e.origin ++ declarations_from (place + 1) es

-- the definitions that it holds
abbrev pub definitions_of : Library → List Definition
definitions_of library = library.definitions.items

-- this is the definition of the entry, but for its body, which is a node of the table (AreTermsOf)
pub record IsDefinitionOf (d : Definition) (e : Entry) : Type 0 where
  pub name : d.name.items ≡ e.name
  pub parameters : map (λ p. p.1) d.params.items ≡ e.parameters
  pub sort : d.result ≡ e.sort
  pub origin : (body : Sexp) × (e.origin ≡ signature.Defined (map (λ p. p.0.items) d.params.items) body)

-- these are the definitions of the entries, in order
abbrev pub AreDefinitions : List Definition → List Entry → Type 0
AreDefinitions [] [] = Unit {0}
AreDefinitions (d ∷ ds) (e ∷ es) = IsDefinitionOf d e × AreDefinitions ds es
AreDefinitions _ _ = ⊥

-- ---- where a name stands

-- the entry is the one at this place, among those that are declared or those that are defined
abbrev pub IsFound : Found → List Entry → Entry → Type 0
IsFound (place.Declared n) entries e = slice_get (declared_among entries) n ≡ Some e
IsFound (place.Defined n) entries e = slice_get (defined_among entries) n ≡ Some e

-- ---- what a library stands for

-- how many names there are
abbrev pub name_count : Library → ℕ
name_count library = length (ranks_of_library library)

-- the contents are the theories, the elements, the abbreviations, the names, the declarations and the definitions of
-- the signature, in which no name stands twice, and their table is the signature's
pub record Holds (c : Contents) (s : Signature) : Type 0 where
  pub theories : c.theories ≡ s.theories
  pub elements : c.elements ≡ s.elements
  pub distinct : AreDistinct s.entries
  pub abbreviations : c.abbreviations ≡ s.abbreviations
  pub ranks : c.ranks ≡ ranks_of s.entries
  pub declared : c.declared ≡ declarations_from 0 s.entries
  pub definitions : AreDefinitions c.definitions (defined_among s.entries)
  pub terms : AreTermsOf (terms_in c) s

abbrev pub StandsFor : Library → Signature → Type 0
StandsFor library s = Holds (contents_of library) s

-- whatever the library stood for, it stands for still
abbrev pub IsUnchanged : (old new : Library) → Type 0
IsUnchanged old new = (s : Signature) → StandsFor old s → StandsFor new s

-- a library for the items of a model of the script's names: it has the theories of the script, and its terms may name
-- the elements that items may name
pub record ReadsModelsOf (library script : Library) : Type 0 where
  pub theories : library.sorts.theories ≡ script.sorts.theories
  pub elements : elements_of_library library ≡ elements_lent script
