-- What is known of a term when some of its parts are checked, and others are left.
use Rattle.std.specs.Prelude.{◌≡◌, ℕ, List, ◌++◌, Bool, false, Result, Ok, length}
use Rattle.smt_trees.specs.Sexp.{Sexp, Sexps, Atom, Items, Nil, Cons, Symbol}
use Rattle.smt_theory.specs.Words.{result_and_then}
use Rattle.smt_theory.specs.Sort.{Sort}
use Rattle.smt_forms.specs.Heads.{begins_annotated, begins_indexed, begins_let, begins_qualified}
use Rattle.smt_faults.specs.declared.term_flaw.TermFlaw.{TermFlaw}
use Rattle.smt_terms.specs.Checking.{sorts_in}
use Rattle.smt_terms.specs.Denotes.{IsLonger, Slots, Table}
use Rattle.smt_terms.specs.Denotes.{AreBound, AreDenoted}
use Rattle.smt_terms.specs.Internal.DraftView.{argument_sorts, argument_terms, sorts_from, terms_from}
use Rattle.smt_terms.specs.Internal.LabelsView.{AreGiven}
use Rattle.smt_terms.specs.Internal.NodesView.{Denoting, GrowsTo, KeepsNamed}
use Rattle.smt_terms.specs.Internal.TableView.{IsReady, places_seen, slots_seen, table_in}
use Rattle.smt_terms.specs.Signature.{Names}
use Rattle.smt_terms.specs.declared.labels.Labels.{Labels}
use Rattle.smt_terms.specs.declared.library.Library.{Library}
use Rattle.smt_terms.specs.declared.library.draft.Draft.{Draft}

-- a head that is no reserved word, so that the list applies it or is out of form
pub record IsPlainHead (head : Sexp) : Type 0 where
  pub no_index : begins_indexed head ≡ false
  pub no_let : begins_let head ≡ false
  pub no_bang : begins_annotated head ≡ false
  pub no_as : begins_qualified head ≡ false

-- a binding, its name with its term
abbrev pub binding : List ℕ → Sexp → Sexp
binding x term = Items (Cons (Atom Symbol x) (Cons term Nil))

-- the sorts of all are those that are done, and then those of the trees that are left
abbrev pub sorts_behind : Names → List (List ℕ × Sort) → List Sort → Sexps → Result (List Sort) TermFlaw
sorts_behind names scope before left = result_and_then (sorts_in names scope left) (λ ss. Ok (before ++ ss))

-- some labels were given, and others are left
pub record AreGivenOf (names : Names) (old new : Labels) (all left : List (List ℕ × Sexp)) : Type 0 where
  pub more : List (List ℕ × Sexp)
  pub given : AreGiven names old new more
  pub are : all ≡ more ++ left

-- ---- arguments that wait

-- how many arguments wait
abbrev pub waiting : Draft → ℕ
waiting draft = length (argument_sorts draft.arguments)

-- those that wait after those of an earlier draft
abbrev pub sorts_since : (old new : Draft) → List Sort
sorts_since old new = sorts_from (waiting old) new.arguments

abbrev pub terms_since : (old new : Draft) → List ℕ
terms_since old new = terms_from (waiting old) new.arguments

pub record WaitSince (old new : Draft) : Type 0 where
  pub sorts : argument_sorts new.arguments ≡ argument_sorts old.arguments ++ sorts_since old new
  pub terms : argument_terms new.arguments ≡ argument_terms old.arguments ++ terms_since old new

-- ---- nodes

-- these nodes stand for what stands before the parts that are left: with nodes for those, all do
abbrev pub StandBefore : Denoting → Table → Slots → ℕ → List ℕ → (left all : Sexps) → Type 0
StandBefore Are t slots next done left all = (u : Table) (js : List ℕ) → IsLonger t u
    → Are u slots next (length u.rows) js left → Are u slots next (length u.rows) (done ++ js) all

-- some parts stand so, and others are left
pub record SoFar (Are : Denoting) (library : Library) (old new : Draft) (all left : Sexps) (done : List ℕ)
    (is_open : Bool) : Type 0 where
  pub longer : GrowsTo old new
  pub named : KeepsNamed library old new
  pub before : IsReady (table_in library old) → is_open ≡ false
      → StandBefore Are (table_in library new) (slots_seen old) (places_seen old) done left all

abbrev pub TermsSoFar : Library → (old new : Draft) → (all left : Sexps) → List ℕ → Bool → Type 0
TermsSoFar = SoFar AreDenoted

abbrev pub BindingsSoFar : Library → (old new : Draft) → (all left : Sexps) → List ℕ → Bool → Type 0
BindingsSoFar = SoFar AreBound
