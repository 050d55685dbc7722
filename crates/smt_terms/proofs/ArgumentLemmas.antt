-- Arguments that wait for their term, after those that waited before.
use Rattle.std.proofs.Common.{◌≡◌, ◌-◌, ℕ, Bool, List, [], ◌∷◌, ◌++◌, length, drop, take, refl, ap, sym, ◌∙◌}
use Rattle.std.proofs.Common.{◌≤◌, Ok, Result, append-nil, arith, subst}
use Rattle.std.proofs.Math.Seq.{drop-append_seam}
use Rattle.std.proofs.lemmas.List.{append_assoc, length-append, length-drop}
use Rattle.smt_theory.specs.Sort.{Sort}
use Rattle.smt_terms.specs.Internal.SoFar.{IsPlainHead, SoFar, WaitSince, sorts_since, terms_since, waiting}
use Rattle.smt_terms.specs.Internal.Calls.{HasTheSame, SeesTheSame}
use Rattle.smt_faults.specs.declared.term_flaw.TermFlaw.{TermFlaw}
use Rattle.smt_terms.specs.Checking.{sort_in, sort_of_call, sorts_in}
use Rattle.smt_terms.specs.Internal.DraftView.{argument_sorts, argument_terms, sorts_from, sorts_seen, terms_from}
use Rattle.smt_terms.specs.Internal.LabelsView.{labels_view}
use Rattle.smt_terms.specs.Internal.LibraryView.{names_for, names_of_library}
use Rattle.smt_terms.specs.declared.library.arguments.Arguments.{Arguments}
use Rattle.smt_forms.specs.Identifier.{Identifier, applied_in}
use Rattle.smt_terms.specs.Internal.NodesView.{AddsApplied, Denoting, Stands}
use Rattle.smt_terms.proofs.CheckerLemmas.{Scope}
use Rattle.smt_terms.proofs.DraftLemmas.{sorts_kept}
use Rattle.smt_terms.proofs.LabelLemmas.{called}
use Rattle.smt_trees.specs.Sexp.{Cons, Items, Sexp, Sexps}
use Rattle.smt_terms.specs.declared.library.Library.{Library}
use Rattle.smt_terms.specs.declared.library.draft.CheckedTerm.{CheckedTerm}
use Rattle.smt_terms.specs.declared.library.draft.Draft.{Draft}

-- what comes after a list
after_list : {A : Type 0} (xs ys all : List A) (n : ℕ) → n ≡ length xs → all ≡ xs ++ ys → drop n all ≡ ys
after_list xs ys all n count is =
    ap (λ zs. drop n zs) is ∙ ap (λ k. drop k (xs ++ ys)) count ∙ drop-append_seam xs ys

none_after : {A : Type 0} (xs : List A) (n : ℕ) → n ≡ length xs → drop n xs ≡ []
none_after xs n count = after_list xs [] xs n count (sym (append-nil xs))

-- at first none
pub since_none : (d : Draft) → (sorts_since d d ≡ []) × (terms_since d d ≡ []) × WaitSince d d
since_none d =
    let sorts = none_after (argument_sorts d.arguments) (waiting d) refl in
    let terms = none_after (argument_terms d.arguments) (waiting d) (sym d.arguments.paired) in (
      sorts,
      terms,
      record {
        sorts = sym (append-nil (argument_sorts d.arguments)) ∙ ap (λ ss. argument_sorts d.arguments ++ ss) (sym sorts);
        terms = sym (append-nil (argument_terms d.arguments)) ∙ ap (λ js. argument_terms d.arguments ++ js) (sym terms);
      },
    )

-- one more
pub since_more : (old mid last new : Draft) (sort : Sort) (term : ℕ) → WaitSince old mid → HasTheSame mid last
    → argument_sorts new.arguments ≡ argument_sorts last.arguments ++ sort ∷ []
    → argument_terms new.arguments ≡ argument_terms last.arguments ++ term ∷ []
    → (sorts_since old new ≡ sorts_since old mid ++ sort ∷ [])
    × (terms_since old new ≡ terms_since old mid ++ term ∷ []) × WaitSince old new
since_more old mid last new sort term wait same sorts terms =
    let all_sorts : argument_sorts new.arguments
    ≡ argument_sorts old.arguments ++ (sorts_since old mid ++ sort ∷ []) =
    sorts ∙ ap (λ ss. ss ++ sort ∷ []) (same.sorts ∙ wait.sorts)
    ∙ append_assoc (argument_sorts old.arguments) (sorts_since old mid) (sort ∷ []) in
    let all_terms : argument_terms new.arguments
    ≡ argument_terms old.arguments ++ (terms_since old mid ++ term ∷ []) =
    terms ∙ ap (λ js. js ++ term ∷ []) (same.terms ∙ wait.terms)
    ∙ append_assoc (argument_terms old.arguments) (terms_since old mid) (term ∷ []) in
    let more_sorts = after_list (argument_sorts old.arguments) (sorts_since old mid ++ sort ∷ [])
    (argument_sorts new.arguments) (waiting old) refl all_sorts in
    let more_terms = after_list (argument_terms old.arguments) (terms_since old mid ++ term ∷ [])
    (argument_terms new.arguments) (waiting old) (sym old.arguments.paired) all_terms in (
      more_sorts,
      more_terms,
      record {
        sorts = all_sorts ∙ ap (λ ss. argument_sorts old.arguments ++ ss) (sym more_sorts);
        terms = all_terms ∙ ap (λ js. argument_terms old.arguments ++ js) (sym more_terms);
      },
    )

-- from where none waited yet, those that came since wait
pub sorts_start : (old new : Draft) (start : ℕ) (sorts : List Sort) → start ≡ waiting old
    → argument_sorts new.arguments ≡ argument_sorts old.arguments ++ sorts → sorts_from start new.arguments ≡ sorts
sorts_start old new start sorts from is =
    after_list (argument_sorts old.arguments) sorts (argument_sorts new.arguments) start from is

pub terms_start : (old new : Draft) (start : ℕ) (terms : List ℕ) → start ≡ waiting old
    → argument_terms new.arguments ≡ argument_terms old.arguments ++ terms → terms_from start new.arguments ≡ terms
terms_start old new start terms from is =
    after_list (argument_terms old.arguments) terms (argument_terms new.arguments) start
    (from ∙ sym old.arguments.paired) is

-- the sort of a list whose arguments wait so is that of the call that it is
pub called_from : (library : Library) (old new : Draft) (head : Sexp) (args parts : Sexps) (f : Identifier) (start : ℕ)
    (sorts : List Sort) → parts ≡ Cons head args → IsPlainHead head
    → applied_in library.sorts.theories.wide head args ≡ Ok f
    → sorts_in (names_for library (labels_view old.labels)) (sorts_seen old) args ≡ Ok sorts
    → argument_sorts new.arguments ≡ argument_sorts old.arguments ++ sorts → start ≡ waiting old → SeesTheSame old new
    → sort_in (names_for library (labels_view old.labels)) (sorts_seen old) (Items parts)
    ≡ sort_of_call (names_of_library library) (sorts_seen new) f (sorts_from start new.arguments)
called_from library old new head args parts f start sorts split other is found wait from kept =
    let given = sorts_from start new.arguments in
    let call : Scope → Result Sort TermFlaw = λ vs. sort_of_call (names_of_library library) vs f given in
    called library (labels_view old.labels) (sorts_seen old) head args parts f sorts given (call (sorts_seen new))
    split other is found (sorts_start old new start sorts from wait) (ap call (sorts_kept old new kept))

pub since_within : (old new : Draft) (start : ℕ) (sorts : List Sort) → start ≡ waiting old
    → argument_sorts new.arguments ≡ argument_sorts old.arguments ++ sorts → start ≤ waiting new
since_within old new start sorts from is =
    omega (arith, from, ap length is, length-append (argument_sorts old.arguments) sorts)

-- as many nodes wait as sorts
pub start_counted : (d : Draft) (start : ℕ)
    → length (terms_from start d.arguments) ≡ length (sorts_from start d.arguments)
start_counted d start =
    length-drop start (argument_terms d.arguments) ∙ ap (λ n. n - start) d.arguments.paired
    ∙ sym (length-drop start (argument_sorts d.arguments))

-- the first of a list and more are that list
first_list : {A : Type 0} (xs ys all : List A) (n : ℕ) → n ≡ length xs → all ≡ xs ++ ys → take n all ≡ xs
first_list xs ys all n count is = ap (λ zs. take n zs) is ∙ ap (λ k. take k (xs ++ ys)) count ∙ first xs ys
  where
    first : {A : Type 0} (xs ys : List A) → take (length xs) (xs ++ ys) ≡ xs
    first [] ys = refl
    first (x ∷ xs) ys = ap (λ zs. x ∷ zs) (first xs ys)

-- arguments that are taken away leave those of before
pub taken_away : (old mid after : Draft) (start : ℕ) (sorts : List Sort) (terms : List ℕ)
    → start ≡ waiting old
    → argument_sorts mid.arguments ≡ argument_sorts old.arguments ++ sorts
    → argument_terms mid.arguments ≡ argument_terms old.arguments ++ terms
    → argument_sorts after.arguments ≡ take start (argument_sorts mid.arguments)
    → argument_terms after.arguments ≡ take start (argument_terms mid.arguments) → HasTheSame old after
taken_away old mid after start sorts terms from is_sorts is_terms took_sorts took_terms = record {
  sorts = took_sorts ∙ first_list (argument_sorts old.arguments) sorts _ start from is_sorts;
  terms = took_terms
      ∙ first_list (argument_terms old.arguments) terms _ start (from ∙ sym old.arguments.paired) is_terms;
}

-- where none waits from this one on, there is no argument
pub no_sorts : (d : Draft) (start : ℕ) → start ≡ waiting d → sorts_from start d.arguments ≡ []
no_sorts d start is = none_after (argument_sorts d.arguments) start is

no_terms : (d : Draft) (start : ℕ) → start ≡ waiting d → terms_from start d.arguments ≡ []
no_terms d start is = none_after (argument_terms d.arguments) start (is ∙ sym d.arguments.paired)

pub applied_alone : (library : Library) (old new : Draft) (around : ℕ) (f : Identifier) (start : ℕ)
    → start ≡ waiting old → (c : CheckedTerm)
    → AddsApplied library old new around f (sorts_from start old.arguments) (terms_from start old.arguments) c
    → AddsApplied library old new around f [] [] c
applied_alone library old new around f start is c adds =
    subst (λ ss. AddsApplied library old new around f ss [] c) (no_sorts old start is)
    (subst (λ js. AddsApplied library old new around f (sorts_from start old.arguments) js c)
    (no_terms old start is) adds)

-- ---- a draft with other arguments

-- what is so of a draft is so of it with other arguments
pub sees_with : (old new : Draft) (arguments : Arguments) → SeesTheSame old new
    → SeesTheSame old (record new { arguments = arguments })
sees_with old new arguments same = record { variables = same.variables; base = same.base }

pub so_far_with : (Are : Denoting) (library : Library) (old new : Draft) (arguments : Arguments) (all left : Sexps)
    (done : List ℕ) (is_open : Bool) → SoFar Are library old new all left done is_open
    → SoFar Are library old (record new { arguments = arguments }) all left done is_open
so_far_with Are library old new arguments all left done is_open so =
    record { longer = so.longer; named = so.named; before = so.before }

pub stands_with : (library : Library) (old new : Draft) (around : ℕ) (arguments : Arguments) (term : Sexp)
    (c : CheckedTerm) → Stands library old new around term c
    → Stands library old (record new { arguments = arguments }) around term c
stands_with library old new around arguments term c stands = record {
  own = stands.own;
  number = stands.number;
  denotes = stands.denotes;
  named = stands.named;
}
