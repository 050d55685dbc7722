-- What contents stand for while names are added to them, where bodies of definitions are still to come.
use Rattle.std.specs.List.{All}
use Rattle.std.specs.Prelude.{◌≡◌, ℕ, List, [], ◌∷◌, ◌++◌, IfErr, Ok, OnOk, Result, false, length, map}
use Rattle.smt_nodes.specs.Node.{Row}
use Rattle.smt_theory.specs.Operators.{is_plain_operator}
use Rattle.smt_theory.specs.Sort.{Sort}
use Rattle.smt_trees.specs.Sexp.{Sexp}
use Rattle.smt_trees.specs.View.{sexp_of}
use Rattle.smt_faults.specs.Outcome.{Tells}
use Rattle.smt_faults.specs.declared.term_fault.TermFault.{TermFault}
use Rattle.smt_terms.specs.Contents.{Contents, terms_in}
use Rattle.smt_terms.specs.Definitions.{definition_in}
use Rattle.smt_terms.specs.Denotes.{Denotes, Table, slots_from}
use Rattle.smt_terms.specs.Internal.TableView.{names_of_definitions}
use Rattle.smt_terms.specs.Library.{AreDefinitions, StandsFor, declarations_from, defined_among}
use Rattle.smt_terms.specs.Signature.{AreDistinct, Entry, Signature, names_of, ranks_of, with_entry}
use Rattle.smt_terms.specs.TermsOf.{AreBodies, heads_of}
use Rattle.smt_terms.specs.declared.labels.Label.{Label}
use Rattle.smt_terms.specs.declared.library.Library.{Library}

-- no name has come or gone, and perhaps more nodes have come
pub record KeepsNames (old new : Contents) : Type 0 where
  pub theories : new.theories ≡ old.theories
  pub elements : new.elements ≡ old.elements
  pub abbreviations : new.abbreviations ≡ old.abbreviations
  pub ranks : new.ranks ≡ old.ranks
  pub heads : new.heads ≡ old.heads
  pub declared : new.declared ≡ old.declared
  pub definitions : new.definitions ≡ old.definitions
  pub bodies : new.bodies ≡ old.bodies
  pub rows : (more : List Row) × (new.rows ≡ old.rows ++ more)

-- definitions by their places, of which some may still come: the name of each, and the node that is its body
pub record Bodies : Type 0 where
  pub names : List (List ℕ)
  pub nodes : List ℕ

-- those that contents have
abbrev pub bodies_in : Contents → Bodies
bodies_in c = record { names = names_of_definitions c.definitions; nodes = c.bodies }

-- the table of contents, where the definitions have these names and bodies
abbrev pub terms_under : Bodies → Contents → Table
terms_under bodies c = record (terms_in c) { names = bodies.names; bodies = bodies.nodes }

-- the node is a body that sees all names, and these as its parameters
abbrev pub IsBodyUnder : Bodies → Contents → List (List ℕ × Sort) → ℕ → Sexp → Type 0
IsBodyUnder bodies c parameters node t =
    Denotes (terms_under bodies c) (slots_from 0 (map (λ p. p.0) parameters)) (length parameters) 0 node t

-- as `Holds`, where the bodies of the contents are seen among these
pub record HoldsUnder (bodies : Bodies) (c : Contents) (s : Signature) : Type 0 where
  pub theories : c.theories ≡ s.theories
  pub elements : c.elements ≡ s.elements
  pub distinct : AreDistinct s.entries
  pub abbreviations : c.abbreviations ≡ s.abbreviations
  pub ranks : c.ranks ≡ ranks_of s.entries
  pub declared : c.declared ≡ declarations_from 0 s.entries
  pub definitions : AreDefinitions c.definitions (defined_among s.entries)
  pub heads : c.heads ≡ heads_of s.entries
  pub free : All (λ e. is_plain_operator s.theories e.name ≡ false) s.entries
  pub seen : AreBodies (terms_under bodies c) 0 c.bodies s.entries

-- the name of a label is no plain operator's, and its node stands for its term
pub record IsFitUnder (bodies : Bodies) (c : Contents) (s : Signature) (l : Label) : Type 0 where
  pub free : is_plain_operator s.theories l.name.items ≡ false
  pub named : Denotes (terms_under bodies c) [] 0 0 l.node (sexp_of l.body)

abbrev pub AreFitUnder : Bodies → Contents → Signature → List Label → Type 0
AreFitUnder bodies c s [] = Unit {0}
AreFitUnder bodies c s (l ∷ ls) = IsFitUnder bodies c s l × AreFitUnder bodies c s ls

-- ---- definitions of new names

-- the definition was added, and the library stands for it unless the name is a plain operator's
abbrev pub AddsDefinition : (old new : Library) → List ℕ → List (List ℕ × Sort) → Sort → Sexp
    → Result (Unit {0}) TermFault → Type 0
AddsDefinition old new name parameters sort body result = OnOk result ((s : Signature) → StandsFor old s → (e : Entry)
    × (definition_in (names_of s) name parameters sort body ≡ Ok e)
    × (is_plain_operator s.theories name ≡ false → StandsFor new (with_entry s e)))

-- the fault is the first of the definition
abbrev pub RefusesDefinition : Library → List ℕ → List (List ℕ × Sort) → Sort → Sexp
    → Result (Unit {0}) TermFault → Type 0
RefusesDefinition library name parameters sort body result = IfErr result (λ fault. (s : Signature)
    → StandsFor library s → Tells (definition_in (names_of s) name parameters sort body) fault)
