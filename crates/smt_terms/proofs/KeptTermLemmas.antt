-- Terms that were checked with their nodes: what a library keeps, and what their nodes stand for as it grows.
use Rattle.std.proofs.Common.{◌≡◌, ℕ, List, [], ◌∷◌, ◌++◌, length, map, Result, Ok, OnErr, OnOk, refl, ap}
use Rattle.std.proofs.Common.{sym, ◌∙◌, subst}
use Rattle.std.proofs.lemmas.List.{append-nil, length-map}
use Rattle.smt_nodes.specs.Node.{Row}
use Rattle.smt_nodes.specs.Nodes.{rows_of}
use Rattle.smt_trees.specs.Sexp.{Sexp}
use Rattle.smt_trees.specs.View.{sexp_of}
use Rattle.smt_theory.specs.Sort.{Sort}
use Rattle.smt_forms.specs.Labels.{labels_in}
use Rattle.smt_forms.specs.ScopeView.{scope_view}
use Rattle.smt_forms.specs.declared.variable.Variable.{Variable}
use Rattle.smt_terms.specs.Checking.{sort_in}
use Rattle.smt_terms.specs.Contents.{Contents, contents_of}
use Rattle.smt_terms.specs.Denotes.{AreApart, Denotes, IsLonger, slots_from}
use Rattle.smt_terms.specs.Internal.Growing.{Bodies, IsBodyUnder, KeepsNames, terms_under}
use Rattle.smt_terms.specs.Internal.TableView.{names_of_definitions, table_with}
use Rattle.smt_terms.specs.Internal.LibraryView.{elements_of_library, names_for, names_of_library}
use Rattle.smt_terms.specs.Labels.{Labels, Refused}
use Rattle.smt_terms.specs.declared.labels.Label.{Label}
use Rattle.smt_terms.specs.declared.library.Library.{Library}
use Rattle.smt_faults.specs.declared.term_flaw.TermFlaw.{TermFlaw}
use Rattle.smt_terms.proofs.CheckerLemmas.{Scope}
use Rattle.smt_terms.proofs.ContentsLemmas.{Goes, keeps_names, more_rows}
use Rattle.smt_terms.proofs.DenotesLemmas.{denotes_kept}
use Rattle.smt_terms.proofs.IntroducedLemmas.{no_labels_given}

-- where a term was checked or refused, no name has come
pub checked_keeps : {A E : Type 0} (r : Result A E) (old new : Library)
    → OnOk r (Goes (rows_of old.nodes) (rows_of new.nodes)) → OnErr r (rows_of new.nodes ≡ rows_of old.nodes)
    → new.names ≡ old.names → new.sorts ≡ old.sorts → new.elements ≡ old.elements → new.declared ≡ old.declared
    → new.definitions ≡ old.definitions → new.bodies ≡ old.bodies → KeepsNames (contents_of old) (contents_of new)
checked_keeps r old new grown unchanged names sorts elements declared definitions bodies =
    keeps_names old new names sorts elements declared definitions bodies
    (more_rows r (rows_of old.nodes) (rows_of new.nodes) grown unchanged)

-- the table that a term was checked over is the first part of a later one
pub checked_longer : (old : Library) (now : Contents) (given : List Label) (rows : List Row) (bodies : Bodies)
    → now.theories ≡ old.sorts.theories → now.elements ≡ elements_of_library old → Goes (contents_of old).heads now.heads
    → AreApart (elements_of_library old) (contents_of old).heads now.heads → Goes (names_of_definitions old.definitions.items ++ map (λ l. l.name.items) given) bodies.names
    → Goes (old.bodies.items ++ map (λ l. l.node) given) bodies.nodes → Goes rows now.rows
    → IsLonger (table_with old given rows) (terms_under bodies now)
checked_longer old now given rows bodies theories elements heads apart names more grown = record {
  theories = theories;
  elements = elements;
  heads = heads;
  apart = apart;
  names = names;
  bodies = more;
  rows = grown;
}

-- ---- where no labels may be given

-- labels with their terms
abbrev pub given_as : List Label → List (List ℕ × Sexp)
given_as given = map (λ l. (l.name.items, sexp_of l.body)) given

none_of : (given : List Label) → given_as given ≡ [] → given ≡ []
none_of [] h = refl
none_of (l ∷ given) h = cc

pub none_given : (library : Library) (labels : Labels) (scope : Scope) (t : Sexp) (sort : Sort)
    (given : List Label) → labels ≡ Refused → sort_in (names_for library labels) scope t ≡ Ok sort
    → given_as given ≡ labels_in t → given ≡ []
none_given library labels scope t sort given refused has are =
    none_of given (are ∙ no_labels_given (names_for library labels) scope t sort refused has)

-- so the names and the bodies are the library's, and perhaps more
pub none_more : {A : Type 0} (f : Label → A) (old : List A) (given : List Label) (new : List A) → given ≡ []
    → Goes old new → Goes (old ++ map f given) new
none_more {A = A} f old given new none (more, is) = (
  more,
  is ∙ ap (λ (xs : List A). xs ++ more)
      (sym (ap (λ (ls : List Label). old ++ map f ls) none ∙ append-nil old)),
)

-- the sort of a term without labels is that over the library's names
pub without_labels : (library : Library) (labels : Labels) (scope : Scope) (t : Sexp) (r : Result Sort TermFlaw)
    → labels ≡ Refused → sort_in (names_for library labels) scope t ≡ r
    → sort_in (names_of_library library) scope t ≡ r
without_labels library labels scope t r refused has =
    ap (λ ls. sort_in (names_for library ls) scope t) (sym refused) ∙ has

-- ---- bodies

pub length-scope : {V : Type 0} (vs : List (Variable V)) → length (scope_view vs) ≡ length vs
length-scope vs = length-map vs (λ v. (v.name.now, v.value))

-- a term that was checked over parameters is a body that sees all names
pub body_checked : (old : Library) (now : Contents) (given : List Label) (rows : List Row) (bodies : Bodies)
    (vs : List (Variable Sort)) (node : ℕ) (t : Sexp)
    → IsLonger (table_with old given rows) (terms_under bodies now)
    → Denotes (table_with old given rows) (slots_from 0 (map (λ v. v.0) (scope_view vs))) (length vs) 0 node t
    → IsBodyUnder bodies now (scope_view vs) node t
body_checked old now given rows bodies vs node t longer is =
    denotes_kept (table_with old given rows) (terms_under bodies now) longer
    (slots_from 0 (map (λ v. v.0) (scope_view vs))) (length (scope_view vs)) 0 node t
    (subst (λ (n : ℕ). Denotes (table_with old given rows) (slots_from 0 (map (λ v. v.0) (scope_view vs))) n 0
    node t) (sym (length-scope vs)) is)
