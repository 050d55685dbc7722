-- What the sort checker answers of a term, and what a call applies.
use Rattle.std.specs.Prelude.{◌≡◌, ℕ, List, [], ◌∷◌, ◌++◌, Bool, true, false, Result, Ok, MatchResult, None, OnOk}
use Rattle.std.specs.Prelude.{is_some}
use Rattle.smt_trees.specs.Sexp.{Sexp}
use Rattle.smt_theory.specs.Words.{look_up}
use Rattle.smt_theory.specs.Sort.{Sort}
use Rattle.smt_faults.specs.Outcome.{IsOutcome, Tells, TellsSome}
use Rattle.smt_faults.specs.declared.term_fault.TermFault.{TermFault}
use Rattle.smt_faults.specs.declared.term_flaw.TermFlaw.{TermFlaw}
use Rattle.smt_forms.specs.Identifier.{Identifier, Plain, Indexed, Qualified}
use Rattle.smt_forms.specs.Labels.{labels_in}
use Rattle.smt_forms.specs.Variables.{uses_variable}
use Rattle.smt_terms.specs.Checking.{flaw_of_label, flaw_of_labels, sort_in}
use Rattle.smt_terms.specs.Internal.DraftView.{argument_sorts, argument_terms, seen_by, sorts_seen}
use Rattle.smt_terms.specs.Internal.LabelsView.{AreGiven, labels_view}
use Rattle.smt_terms.specs.Internal.LibraryView.{names_for, names_of_library}
use Rattle.smt_terms.specs.Labels.{Labels}
use Rattle.smt_terms.specs.Signature.{Names, unlabelled}
use Rattle.smt_terms.specs.declared.library.Library.{Library}
use Rattle.smt_terms.specs.declared.library.draft.CheckedTerm.{CheckedTerm}
use Rattle.smt_terms.specs.declared.library.draft.Draft.{Draft}

-- the result is the sort of the term, which may give labels behind those of the draft, or its first flaw
abbrev pub HasSort : Library → Draft → Sexp → Result CheckedTerm TermFault → Type 0
HasSort library draft term result =
    IsOutcome (λ c. c.sort) (sort_in (names_for library (labels_view draft.labels)) (sorts_seen draft) term)
    result

-- where a sort is answered, the labels of the term were given behind the old ones
abbrev pub GivesLabels : Library → (old new : Draft) → Sexp → Result CheckedTerm TermFault → Type 0
GivesLabels library old new term result =
    OnOk result (AreGiven (names_of_library library) old.labels new.labels (labels_in term))

-- the same variables are seen, and as many of them stand outside
pub record SeesTheSame (old new : Draft) : Type 0 where
  pub variables : seen_by new ≡ seen_by old
  pub base : new.base ≡ old.base

-- the same arguments wait for their term
pub record HasTheSame (old new : Draft) : Type 0 where
  pub sorts : argument_sorts new.arguments ≡ argument_sorts old.arguments
  pub terms : argument_terms new.arguments ≡ argument_terms old.arguments

-- more arguments wait, after those of before
abbrev pub HasMoreSorts : (old new : Draft) → Type 0
HasMoreSorts old new =
    (sorts : List Sort) × (argument_sorts new.arguments ≡ argument_sorts old.arguments ++ sorts)

-- these sorts were found of arguments, which wait after those of before; or a flaw
abbrev pub HasSorts : (old new : Draft) → Result (List Sort) TermFlaw → Result Bool TermFault → Type 0
HasSorts old new found result =
    MatchResult result
    (λ _. (sorts : List Sort) × (found ≡ Ok sorts)
    × (argument_sorts new.arguments ≡ argument_sorts old.arguments ++ sorts))
    (Tells found)

-- whether an identifier is the plain name of a variable
abbrev pub names_variable : List (List ℕ × Sort) → Identifier → Bool
names_variable scope (Plain f) = is_some (look_up scope f)
names_variable scope (Indexed f indexes) = false
names_variable scope (Qualified sort) = false

-- ---- labels

abbrev pub has_labels : List (List ℕ) → Bool
has_labels [] = false
has_labels (x ∷ xs) = true

-- a term that uses no variable from outside has its sort without any
abbrev pub IsSortedUnlessOpen : Library → CheckedTerm → Sexp → Type 0
IsSortedUnlessOpen library checked term =
    checked.is_open ≡ false → sort_in (unlabelled (names_of_library library)) [] term ≡ Ok checked.sort

-- the first flaw of a label, and of labels one behind another, of a term that uses a variable from outside or doesn't
abbrev pub TellsOfLabel : Names → Labels → Bool → Sexp → List ℕ → Result (Unit {0}) TermFault → Type 0
TellsOfLabel names labels used term x result = (scope : List (List ℕ × Sort))
    → uses_variable scope term ≡ used
    → MatchResult result (λ _. flaw_of_label names labels scope term x ≡ None)
    (TellsSome (flaw_of_label names labels scope term x))

abbrev pub TellsOfLabels : Names → Bool → Sexp → List (List ℕ) → Result (Unit {0}) TermFault → Type 0
TellsOfLabels names used term xs result = (scope : List (List ℕ × Sort))
    → uses_variable scope term ≡ used
    → MatchResult result (λ _. flaw_of_labels names scope term xs ≡ None)
    (TellsSome (flaw_of_labels names scope term xs))
