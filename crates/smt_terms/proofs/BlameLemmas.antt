-- What is to blame over the names of a library, over what the library stands for.
use Rattle.std.proofs.Common.{◌≡◌, ◌⊎◌, inl, inr, ℕ, List, Bool, true, false, ◌&&◌, Option, Some}
use Rattle.std.proofs.Common.{None, Result, Ok, Err, subst, refl, sym, ap, ◌∙◌}
use denote.Ref.{Bor}
use Rattle.std.specs.Prelude.{IfErr, IfOk, IfSome, MatchOption, [], is_some, if◌then◌else◌}
use Rattle.smt_faults.specs.declared.memory.Memory.{Memory}
use Rattle.smt_trees.specs.Sexp.{Sexp, Sexps, Items, Nil, Cons}
use Rattle.smt_theory.specs.Sort.{Sort}
use Rattle.smt_forms.specs.Identifier.{Identifier, Plain, Indexed, Qualified}
use Rattle.smt_trees.specs.View.{sexp_of}
use Rattle.smt_trees.specs.declared.view.Tree.{Tree}
use Rattle.smt_theory.specs.declared.theories.Theories.{Theories}
use Rattle.smt_terms.specs.Blame.{IsBlamed, IsCall, IsInUse, IsLacking, IsToldOver, IsToldOf, IsUnknown, name_of}
use Rattle.smt_terms.specs.Blame.{IsFirstTold, IsToldTwice, IsToldWhole, IsTwice, whole_blame, with_theory}
use Rattle.smt_forms.specs.ItemForm.{ItemForm, item_form}
use Rattle.smt_theory.specs.Sort.{is_same_sort}
use Rattle.smt_theory.specs.Sort.{Boolean}
use Rattle.smt_terms.specs.Checking.{sort_in}
use Rattle.smt_terms.specs.Items.{is_set_aside}
use Rattle.smt_faults.specs.Outcome.{IsOutcome, Tells}
use Rattle.smt_terms.specs.Internal.DraftView.{sorts_seen}
use Rattle.smt_terms.specs.Internal.Frames.{Begun, HasFault, IsDone}
use Rattle.smt_terms.specs.Internal.LabelsView.{labels_view}
use Rattle.smt_terms.specs.declared.library.draft.CheckedTerm.{CheckedTerm}
use Rattle.smt_terms.specs.declared.library.draft.Draft.{Draft}
use Rattle.smt_faults.specs.declared.term_fault.TermFault.{TermFault}
use Rattle.smt_faults.specs.declared.term_fault.TermFault.TheVariants as fault_of
use Rattle.smt_faults.specs.declared.term_flaw.TermFlaw.{TermFlaw}
use Rattle.smt_terms.specs.Freshness.{is_defined_before, is_sort_taken, is_taken}
use Rattle.smt_terms.specs.declared.blame.Blame.TheVariants.{InUse, Whole}
use Rattle.smt_terms.specs.Internal.Blamed.{IsApplied, IsTold, blame_of_unknown, unknown_by}
use Rattle.smt_terms.specs.declared.blame.Theory.{Theory}
use Rattle.smt_terms.specs.declared.blame.Theory.TheVariants.{Integers, Reals, BitVectors, Arrays}
use Rattle.smt_terms.specs.declared.library.blamed_names.Unknown.{Unknown}
use Rattle.smt_terms.specs.Internal.Blamed as internal
use Rattle.smt_terms.specs.Internal.Calls.{names_variable}
use Rattle.smt_terms.specs.Internal.LibraryView.{names_for, names_of_library, sort_names}
use Rattle.smt_terms.specs.Library.{StandsFor}
use Rattle.smt_terms.specs.Signature.{Entry, Names, Signature, names_of, sort_names_of}
use Rattle.smt_terms.specs.SortTrees.{SortNames}
use Rattle.smt_terms.specs.declared.blame.Blame.{Blame}
use Rattle.smt_terms.specs.declared.library.Library.{Library}
use Rattle.smt_terms.proofs.ItemLemmas.{names_as, sorts_as}

-- what holds over the names of a library holds over those of what it stands for
over : (P : Names → SortNames → Type 0) (library : Library) (s : Signature) → StandsFor library s
    → P (names_of_library library) (sort_names library.sorts) → P (names_of s) (sort_names_of s)
over P library s stands h =
    subst (λ names. P names (sort_names_of s)) (names_as library s stands)
    (subst (λ sorts. P (names_of_library library) sorts) (sorts_as library s stands) h)

pub told_over : (library : Library) (s : Signature) (found : Option Blame) → StandsFor library s
    → IsTold library found → IsToldOver s found
told_over library s found stands h = over (λ names sorts. IfSome found (IsBlamed names sorts)) library s stands h

pub told_by : (library : Library) (s : Signature) (result : Result (Option Blame) Memory) → StandsFor library s
    → IfOk result (IsTold library) → IfOk result (IsToldOver s)
told_by library s result stands h =
    over (λ names sorts. IfOk result (λ found. IfSome found (IsBlamed names sorts))) library s stands h

pub told_of : (script items : Library) (s m : Signature) (result : Result (Option Blame) Memory)
    → StandsFor script s → StandsFor items m → IfOk result (internal.IsToldOf script items)
    → IfOk result (IsToldOf s m)
told_of script items s m result stands reads h =
    over (λ names sorts. IfOk result (λ found. IfSome found
    (λ b. IsBlamed (names_of s) (sort_names_of s) b ⊎ IsBlamed names sorts b))) items m reads
    (over (λ names sorts. IfOk result (λ found. IfSome found (λ b. IsBlamed names sorts b
    ⊎ IsBlamed (names_of_library items) (sort_names items.sorts) b))) script s stands h)

-- a list that applies an identifier is a call of it
pub called : (parts : Sexps) (f : Identifier) → IsApplied parts f → (args : Sexps) × IsCall (Items parts) f args
called (Cons head args) f h = (args, (head, refl, h))
called Nil f h = absurd h

-- of a variable it is a symbol
pub symbol_of : (scope : List (List ℕ × Sort)) (f : Identifier) → names_variable scope f ≡ true
    → (x : List ℕ) × (f ≡ Plain x)
symbol_of scope (Plain x) h = (x, refl)
symbol_of scope (Indexed x indexes) h = cc
symbol_of scope (Qualified sort) h = cc

-- what is told over the names of the script, or of the items, is told over both
pub left_told : (script items : Library) (found : Option Blame) → IsTold script found
    → internal.IsToldOf script items found
left_told script items None h = h
left_told script items (Some b) h = inl h

pub left_by : (script items : Library) (result : Result (Option Blame) Memory) → IfOk result (IsTold script)
    → IfOk result (internal.IsToldOf script items)
left_by script items (Ok found) h = left_told script items found h
left_by script items (Err e) h = h

right_told : (script items : Library) (found : Option Blame) → IsTold items found
    → internal.IsToldOf script items found
right_told script items None h = h
right_told script items (Some b) h = inr h

pub right_by : (script items : Library) (result : Result (Option Blame) Memory) → IfOk result (IsTold items)
    → IfOk result (internal.IsToldOf script items)
right_by script items (Ok found) h = right_told script items found h
right_by script items (Err e) h = h

pub and_right : (a b : Bool) → (a && b) ≡ true → b ≡ true
and_right true b h = h
and_right false b h = cc

-- ---- unknown parts

by_tests : (names : Names) (sorts : SortNames) (part : Tree) (name : Option (Bor (List ℕ)))
    (here with_integers with_reals with_vectors with_arrays : Bool)
    → (here ≡ true → with_integers ≡ false → IsLacking names sorts (sexp_of part) Integers)
    → (here ≡ true → with_reals ≡ false → IsLacking names sorts (sexp_of part) Reals)
    → (here ≡ true → with_vectors ≡ false → IsLacking names sorts (sexp_of part) BitVectors)
    → (here ≡ true → with_arrays ≡ false → IsLacking names sorts (sexp_of part) Arrays)
    → ((x : Bor (List ℕ)) → name ≡ Some x → here ≡ true → IsUnknown names sorts x.now)
    → IfSome (blame_of_unknown part name
    (record {
      here = here;
      with_integers = with_integers;
      with_reals = with_reals;
      with_vectors = with_vectors;
      with_arrays = with_arrays;
    })) (IsBlamed names sorts)
by_tests names sorts part name false i r v a integers reals vectors arrays named = tt
by_tests names sorts part name true false r v a integers reals vectors arrays named = integers refl refl
by_tests names sorts part name true true false v a integers reals vectors arrays named = reals refl refl
by_tests names sorts part name true true true false a integers reals vectors arrays named = vectors refl refl
by_tests names sorts part name true true true true false integers reals vectors arrays named = arrays refl refl
by_tests names sorts part None true true true true true integers reals vectors arrays named = tt
by_tests names sorts part (Some x) true true true true true integers reals vectors arrays named = named x refl refl

-- a part that is unknown lacks a theory, or has a name that nothing has
pub told_unknown : (names : Names) (sorts : SortNames) (part : Tree) (name : Option (Bor (List ℕ)))
    (theories : Theories) (is_unknown : Theories → Bool) (unknown : Unknown) (found : Option Blame)
    → found ≡ blame_of_unknown part name unknown → unknown ≡ unknown_by is_unknown theories
    → ((theory : Theory) → is_unknown theories ≡ true → is_unknown (with_theory theory theories) ≡ false
    → IsLacking names sorts (sexp_of part) theory)
    → ((x : Bor (List ℕ)) → name ≡ Some x → is_unknown theories ≡ true → IsUnknown names sorts x.now)
    → IfSome found (IsBlamed names sorts)
told_unknown names sorts part name theories is_unknown unknown found is tests lacks named =
    subst (λ r. IfSome r (IsBlamed names sorts)) (sym (is ∙ ap (blame_of_unknown part name) tests))
    (by_tests names sorts part name (is_unknown theories) (is_unknown (with_theory Integers theories))
    (is_unknown (with_theory Reals theories)) (is_unknown (with_theory BitVectors theories))
    (is_unknown (with_theory Arrays theories)) (lacks Integers) (lacks Reals) (lacks BitVectors) (lacks Arrays) named)

pub some_of : {A : Type 0} (P : A → Type 0) (o : Option A) → IfSome o P → (x : A) → o ≡ Some x → P x
some_of P o h x is = subst (λ o. IfSome o P) is h

pub named_so : (f : Identifier) (name x : Bor (List ℕ)) → name.now ≡ name_of f → Some name ≡ Some x → name_of f ≡ x.now
named_so f name x is same = some_of (λ n. name_of f ≡ n.now) (Some name) (sym is) x same

-- ---- names in use

pub told_in_use : (names : Names) (sorts : SortNames) (x : Bor (List ℕ)) (b : Bool) (found : Option Blame)
    → found ≡ (if b then Some (InUse x) else None) → (b ≡ true → IsInUse names sorts x.now)
    → IfSome found (IsBlamed names sorts)
told_in_use names sorts x true found is h = subst (λ r. IfSome r (IsBlamed names sorts)) (sym is) (h refl)
told_in_use names sorts x false found is h = subst (λ r. IfSome r (IsBlamed names sorts)) (sym is) tt

-- a name that what the library stands for has taken, the library has taken
pub is_taken_as : (library : Library) (s : Signature) (x : List ℕ) → StandsFor library s
    → is_taken (names_of s) x ≡ true → is_taken (names_of_library library) x ≡ true
is_taken_as library s x stands h = ap (λ names. is_taken names x) (names_as library s stands) ∙ h

pub is_sort_taken_as : (library : Library) (s : Signature) (x : List ℕ) → StandsFor library s
    → is_sort_taken (sort_names_of s) x ≡ true → is_sort_taken (sort_names library.sorts) x ≡ true
is_sort_taken_as library s x stands h = ap (λ sorts. is_sort_taken sorts x) (sorts_as library s stands) ∙ h

-- ---- terms that have a sort

abbrev sort_or : Sort → Result Sort TermFlaw → Sort
sort_or other (Ok sort) = sort
sort_or other (Err flaw) = other

pub whole_found : (wanted sort : Sort) (sorted : Result Sort TermFlaw) (found : Option Blame) → sorted ≡ Ok sort
    → found ≡ whole_blame sort wanted → IsToldWhole wanted sorted (Ok found)
whole_found wanted sort sorted found is told other h =
    told ∙ ap (λ s. whole_blame s wanted) (ap (sort_or sort) (sym is ∙ h))

pub whole_refused : (wanted : Sort) (sorted : Result Sort TermFlaw) (fault : TermFault)
    (result : Result (Option Blame) Memory) → Tells sorted fault
    → (fault ≡ fault_of.Memory → IfOk result (λ _. ⊥)) → IsToldWhole wanted sorted result
whole_refused wanted sorted fault (Ok found) (inl is) never sort h = absurd (never is)
whole_refused wanted sorted fault (Err e) (inl is) never sort h = tt
whole_refused wanted sorted fault result (inr is) never sort h = let clash = sym h ∙ is in cc

pub whole_as : (wanted : Sort) (s t : Result Sort TermFlaw) (result : Result (Option Blame) Memory) → t ≡ s
    → IsToldWhole wanted s result → IsToldWhole wanted t result
whole_as wanted s t result is told sort h = told sort (sym is ∙ h)

-- ---- the first of terms that are assumed

abbrev head_or : Sexp → Sexps → Sexp
head_or other Nil = other
head_or other (Cons t ts) = t

-- where the first term has another sort, that is told of it
pub first_whole : (names : Names) (term : Sexp) (result : Result (Option Blame) Memory)
    → IsToldWhole Boolean (sort_in names [] term) result → (sort : Sort) → sort_in names [] term ≡ Ok sort
    → is_same_sort sort Boolean ≡ false → IfOk result (λ found. found ≡ Some (Whole sort Boolean))
first_whole names term (Ok found) told sort is other =
    told sort is ∙ ap (λ (b : Bool). if b then None else Some (Whole sort Boolean)) other
first_whole names term (Err e) told sort is other = tt

pub first_none : (names : Names) (term : Sexp) (result : Result (Option Blame) Memory)
    → IsToldWhole Boolean (sort_in names [] term) (Ok None) → (sort : Sort) → sort_in names [] term ≡ Ok sort
    → is_same_sort sort Boolean ≡ false → IfOk result (λ found. found ≡ Some (Whole sort Boolean))
first_none names term result told sort is other =
    let clash = told sort is ∙ ap (λ (b : Bool). if b then None else Some (Whole sort Boolean)) other in cc

pub first_of_all : (names : Names) (terms rest : Sexps) (term : Sexp) (result : Result (Option Blame) Memory)
    → terms ≡ Cons term rest
    → ((sort : Sort) → sort_in names [] term ≡ Ok sort → is_same_sort sort Boolean ≡ false
    → IfOk result (λ found. found ≡ Some (Whole sort Boolean))) → IsFirstTold names terms result
first_of_all names terms rest term result are told t ts sort same is other =
    told sort (ap (λ x. sort_in names [] x) (ap (head_or term) (sym are ∙ same)) ∙ is) other

-- ---- items that are there twice

pub not_told : {U : Type 0} (o : Option (Result U TermFault)) (told : Option (Result (Option Entry) TermFlaw))
    → MatchOption o (told ≡ None)
    (λ t. (r : Result (Option Entry) TermFlaw) × (told ≡ Some r) × IsOutcome (λ _. None) r t)
    → is_some o ≡ true → told ≡ None → ⊥
not_told None told h some none = cc
not_told (Some t) told h some none = let clash = sym h.1 ∙ none in cc

abbrev form_or : ItemForm → Result ItemForm TermFlaw → ItemForm
form_or other (Ok form) = form
form_or other (Err flaw) = other

pub twice_by : (script items : Signature) (tree : Sexp) (view : ItemForm) (result : Result (Option Blame) Memory)
    → item_form tree ≡ Ok view
    → (is_set_aside script view.name ≡ false → is_defined_before items.entries view.name ≡ true
    → IfOk result (IsTwice view.name)) → IsToldTwice script items tree result
twice_by script items tree view result read told form none is aside before =
    let same : view ≡ form = ap (form_or view) (sym read ∙ is) in
    subst (λ (f : ItemForm). IfOk result (IsTwice f.name)) same
    (told (ap (λ (f : ItemForm). is_set_aside script f.name) same ∙ aside)
    (ap (λ (f : ItemForm). is_defined_before items.entries f.name) same ∙ before))

-- what a walk finds
pub walked : (library : Library) (p : Begun) (last : Draft) (checked : Result CheckedTerm TermFault)
    → IfOk checked (IsDone library p last) → IfErr checked (HasFault library p)
    → IsOutcome (λ (c : CheckedTerm). c.sort)
    (sort_in (names_for library (labels_view p.draft.labels)) (sorts_seen p.draft) p.term) checked
walked library p last (Ok c) done fault = done.sort
walked library p last (Err e) done fault = fault

pub outcome_sort : (sorted : Result Sort TermFlaw) (r : Result CheckedTerm TermFault) (c : CheckedTerm) → r ≡ Ok c
    → IsOutcome (λ (c : CheckedTerm). c.sort) sorted r → sorted ≡ Ok c.sort
outcome_sort sorted r c is found = subst (λ r. IsOutcome (λ (c : CheckedTerm). c.sort) sorted r) is found

pub outcome_fault : (sorted : Result Sort TermFlaw) (r : Result CheckedTerm TermFault) (e : TermFault) → r ≡ Err e
    → IsOutcome (λ (c : CheckedTerm). c.sort) sorted r → Tells sorted e
outcome_fault sorted r e is found = subst (λ r. IsOutcome (λ (c : CheckedTerm). c.sort) sorted r) is found
