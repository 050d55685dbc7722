-- Items that are set aside, and those that are not.
use Rattle.std.proofs.Common.{◌≡◌, inl, inr, ℕ, Bool, true, false, cond, List, [], map, Option, Some, None, is_some}
use Rattle.std.proofs.Common.{unwrap_or, Result, Ok, Err, MatchResult, OnOk, IfErr, refl, ap, sym, ◌∙◌, subst}
use Rattle.std.proofs.lemmas.List.{append-nil}
use Rattle.smt_trees.specs.Sexp.{Sexp, Sexps, Atom, Reserved, Items, Nil, Cons, Symbol}
use Rattle.smt_trees.specs.declared.reserved.Word.TheVariants.{DeclareFun, DeclareSort, Forall}
use Rattle.smt_theory.specs.Sort.{is_same_sort}
use Rattle.smt_theory.specs.Words.{look_up, result_and_then}
use Rattle.smt_theory.specs.Sort.{Sort}
use Rattle.smt_forms.specs.ItemForm.{ItemForm, item_form}
use Rattle.smt_terms.specs.Definitions.{parameters_named}
use Rattle.smt_terms.specs.Internal.LibraryView.{names_of_library, sort_names}
use Rattle.smt_terms.specs.Library.{StandsFor}
use Rattle.smt_terms.specs.Items.{declared_item, element_told, form_in, has_rank_of, is_set_aside, item_by, item_in}
use Rattle.smt_terms.specs.Items.{list_of, repeated_in, told_in, told_item, told_sort}
use Rattle.smt_terms.specs.Elements.{element_sort}
use Rattle.smt_terms.specs.Signature.{Entry, Signature, entry_named, sort_names_of, with_entries}
use Rattle.smt_terms.specs.SortTrees.{sort_named}
use Rattle.smt_faults.specs.Outcome.{Tells}
use Rattle.smt_faults.specs.declared.term_fault.TermFault.{TermFault}
use Rattle.smt_faults.specs.declared.term_flaw.TermFlaw.{TermFlaw}
use Rattle.smt_faults.specs.declared.term_flaw.TermFlaw.TheVariants.{IllSorted, NotFresh}
use Rattle.smt_terms.specs.declared.library.Library.{Library}
use Rattle.smt_terms.proofs.ItemLemmas.{in_force, sorts_as}
use Rattle.smt_terms.proofs.KeptLemmas.{answered}

-- what an item that repeats a definition comes to, by whether it has its rank
abbrev pub by_test : Bool → Result (Option Entry) TermFlaw
by_test b = cond b (Ok None) (Err IllSorted)

abbrev pub by_rank : Signature → ItemForm → List (List ℕ × Sort) → Sort → Result (Option Entry) TermFlaw
by_rank s form ps sort = by_test (has_rank_of (entry_named s.entries form.name) (map (λ p. p.1) ps) sort)

-- what is set aside defines nothing
never_some : (script : Signature) (form : ItemForm) (e : Entry) → repeated_in script form ≡ Ok (Some e) → ⊥
never_some script form e h = by (parameters_named (sort_names_of script) [] form.parameters)
    (sort_named (sort_names_of script) form.sort) h
  where
    test : (b : Bool) → by_test b ≡ Ok (Some e) → ⊥
    test true h = cc
    test false h = cc

    by : (r : Result (List (List ℕ × Sort)) TermFlaw) (q : Result Sort TermFlaw)
        → result_and_then r (λ ps. result_and_then q (by_rank script form ps)) ≡ Ok (Some e) → ⊥
    by (Err f) q h = cc
    by (Ok ps) (Err f) h = cc
    by (Ok ps) (Ok s) h =
        test (has_rank_of (entry_named script.entries form.name) (map (λ p. p.1) ps) s) h

some_of : (r : Result Entry TermFlaw) (e : Entry) → result_and_then r (λ d. Ok (Some d)) ≡ Ok (Some e)
    → r ≡ Ok e
some_of (Ok d) e h = cc
some_of (Err f) e h = cc

-- ---- items that tell of elements

-- they define nothing
tells_nothing : (script : Signature) (parts : Sexps) (e : Entry) → declared_item script parts ≡ Ok (Some e) → ⊥
tells_nothing script (Cons (Atom Symbol x) (Cons (Items Nil) (Cons sort Nil))) e h =
    by (element_sort (sort_names_of script) x) h
  where
    test : (b : Bool) → by_test b ≡ Ok (Some e) → ⊥
    test true g = cc
    test false g = cc

    step : (element : Sort) (r : Result Sort TermFlaw) → result_and_then r (told_sort element) ≡ Ok (Some e) → ⊥
    step element (Err f) g = cc
    step element (Ok s) g = test (is_same_sort element s) g

    inner : (element : Sort) (b : Bool) → cond b (Err NotFresh)
        (result_and_then (sort_named (sort_names_of script) sort) (told_sort element)) ≡ Ok (Some e) → ⊥
    inner element true g = cc
    inner element false g = step element (sort_named (sort_names_of script) sort) g

    by : (o : Option Sort) → element_told script x o sort ≡ Ok (Some e) → ⊥
    by None g = cc
    by (Some element) g = inner element (is_some (entry_named script.entries x)) g
tells_nothing script _ e h = cc

-- what comes of one by what a library says of its parts
pub told_as : (library : Library) (s : Signature) (x : List ℕ) (tree : Sexp) (element : Sort) (b c : Bool)
    → StandsFor library s → Some element ≡ element_sort (sort_names library.sorts) x
    → b ≡ is_some (look_up (names_of_library library).ranks x) → b ≡ c
    → element_told s x (element_sort (sort_names_of s) x) tree
    ≡ cond c (Err NotFresh) (result_and_then (sort_named (sort_names library.sorts) tree) (told_sort element))
told_as library s x tree element b c stands is named same =
    ap (λ sorts. element_told s x (element_sort sorts x) tree) (sym (sorts_as library s stands))
    ∙ ap (λ o. element_told s x o tree) (sym is)
    ∙ ap (λ d. cond d (Err NotFresh) (result_and_then (sort_named (sort_names_of s) tree) (told_sort element)))
    (in_force library s x b c stands named same)
    ∙ ap (λ sorts. cond c (Err NotFresh) (result_and_then (sort_named sorts tree) (told_sort element)))
    (sym (sorts_as library s stands))

-- what a library says of an item that tells of elements
abbrev pub IsToldBy : Library → Sexp → Result (Unit {0}) TermFault → Type 0
IsToldBy script tree told = (s : Signature) → StandsFor script s
    → (r : Result (Option Entry) TermFlaw) × (told_item s tree ≡ Some r) × MatchResult told (λ _. r ≡ Ok None) (Tells r)

-- it adds nothing
pub told_ok : (script items : Library) (tree : Sexp) (told : Result (Unit {0}) TermFault) → IsToldBy script tree told
    → OnOk told ((s m : Signature) → StandsFor script s → StandsFor items m
    → (o : Option Entry) × (item_in s m.entries tree ≡ Ok o) × StandsFor items (with_entries m (list_of o)))
told_ok script items tree (Ok v) h = λ s m stands reads.
    let t = h s stands in (
      None,
      ap (λ o. unwrap_or o (result_and_then (item_form tree) (item_by s m.entries))) t.1 ∙ t.2,
      subst (λ (es : List Entry). StandsFor items (record m { entries = es })) (sym (append-nil m.entries)) reads,
    )
told_ok script items tree (Err fault) h = tt

-- or is refused
pub told_refused : (script items : Library) (tree : Sexp) (told : Result (Unit {0}) TermFault)
    → IsToldBy script tree told
    → IfErr told (λ fault. (s m : Signature) → StandsFor script s → StandsFor items m
    → Tells (item_in s m.entries tree) fault)
told_refused script items tree (Ok v) h = tt
told_refused script items tree (Err fault) h = λ s m stands reads.
    let t = h s stands in
    let rest = result_and_then (item_form tree) (item_by s m.entries) in
    by s m t.0 (ap (λ o. unwrap_or o rest) t.1) t.2
  where
    by : (s m : Signature) (r : Result (Option Entry) TermFlaw) → item_in s m.entries tree ≡ r → Tells r fault
        → Tells (item_in s m.entries tree) fault
    by s m r same (inl memory) = inl memory
    by s m r same (inr e) = inr (same ∙ e)

-- so what defines something is none
untold : (script : Signature) (tree : Sexp) (e : Entry) (rest : Result (Option Entry) TermFlaw)
    → unwrap_or (told_item script tree) rest ≡ Ok (Some e) → rest ≡ Ok (Some e)
untold script tree e rest h = by script.theories.wide h
  where
    in_wide : (t : Sexp) → unwrap_or (told_in script t) rest ≡ Ok (Some e) → rest ≡ Ok (Some e)
    in_wide (Items (Cons (Reserved Forall) parts)) g = cc
    in_wide (Items (Cons (Reserved DeclareSort) parts)) g = cc
    in_wide (Items (Cons (Reserved DeclareFun) parts)) g = absurd (tells_nothing script parts e g)
    in_wide _ g = g

    by : (b : Bool) → unwrap_or (cond b (told_in script tree) None) rest ≡ Ok (Some e) → rest ≡ Ok (Some e)
    by true g = in_wide tree g
    by false g = g

-- and what has the form of a definition is none
form_tells_nothing : (script : Signature) (tree : Sexp) (form : ItemForm) → item_form tree ≡ Ok form
    → told_in script tree ≡ None
form_tells_nothing script (Items (Cons (Reserved Forall) parts)) form h = cc
form_tells_nothing script (Items (Cons (Reserved DeclareSort) parts)) form h = cc
form_tells_nothing script (Items (Cons (Reserved DeclareFun) parts)) form h = cc
form_tells_nothing script _ form h = refl

none_either : {A : Type 0} (b : Bool) (o : Option A) → o ≡ None → cond b o None ≡ None
none_either true o h = h
none_either false o h = refl

told_none : (script : Signature) (tree : Sexp) (form : ItemForm) → item_form tree ≡ Ok form
    → told_item script tree ≡ None
told_none script tree form is =
    none_either script.theories.wide (told_in script tree) (form_tells_nothing script tree form is)

-- what an item defines is what its parts define, and it is not set aside
pub taken_by : (script : Signature) (earlier : List Entry) (tree : Sexp) (e : Entry)
    → item_in script earlier tree ≡ Ok (Some e)
    → (form : ItemForm) × (item_form tree ≡ Ok form) × (form_in script earlier form ≡ Ok e)
    × (is_set_aside script form.name ≡ false)
taken_by script earlier tree e h =
    let a = answered (item_form tree) (item_by script earlier) (Some e)
    (untold script tree e (result_and_then (item_form tree) (item_by script earlier)) h) in
    let b = by a.0 (is_set_aside script a.0.name) refl a.2 in
    (a.0, a.1, b.0, b.1)
  where
    by : (form : ItemForm) (b : Bool) → is_set_aside script form.name ≡ b
        → cond b (repeated_in script form) (result_and_then (form_in script earlier form) (λ d. Ok (Some d)))
        ≡ Ok (Some e) → (form_in script earlier form ≡ Ok e) × (is_set_aside script form.name ≡ false)
    by form true is h = absurd (never_some script form e h)
    by form false is h = (some_of (form_in script earlier form) e h, is)

-- an item that tells of no elements
pub item_untold : (s : Signature) (es : List Entry) (t : Sexp) → told_item s t ≡ None
    → item_in s es t ≡ result_and_then (item_form t) (item_by s es)
item_untold s es t is = ap (λ o. unwrap_or o (result_and_then (item_form t) (item_by s es))) is

-- an item of these parts, by whether it is set aside
pub parts_aside : (s : Signature) (es : List Entry) (t : Sexp) (form : ItemForm) → item_form t ≡ Ok form
    → is_set_aside s form.name ≡ true → result_and_then (item_form t) (item_by s es) ≡ repeated_in s form
parts_aside s es t form is aside =
    ap (λ r. result_and_then r (item_by s es)) is
    ∙ ap (λ b. cond b (repeated_in s form) (result_and_then (form_in s es form) (λ e. Ok (Some e)))) aside

pub item_aside : (s : Signature) (es : List Entry) (t : Sexp) (form : ItemForm) → item_form t ≡ Ok form
    → is_set_aside s form.name ≡ true → item_in s es t ≡ repeated_in s form
item_aside s es t form is aside =
    item_untold s es t (told_none s t form is) ∙ parts_aside s es t form is aside

pub parts_kept : (s : Signature) (es : List Entry) (t : Sexp) (form : ItemForm) → item_form t ≡ Ok form
    → is_set_aside s form.name ≡ false
    → result_and_then (item_form t) (item_by s es) ≡ result_and_then (form_in s es form) (λ e. Ok (Some e))
parts_kept s es t form is kept =
    ap (λ r. result_and_then r (item_by s es)) is
    ∙ ap (λ b. cond b (repeated_in s form) (result_and_then (form_in s es form) (λ e. Ok (Some e)))) kept

pub item_kept : (s : Signature) (es : List Entry) (t : Sexp) (form : ItemForm) → item_form t ≡ Ok form
    → is_set_aside s form.name ≡ false
    → item_in s es t ≡ result_and_then (form_in s es form) (λ e. Ok (Some e))
item_kept s es t form is kept = item_untold s es t (told_none s t form is) ∙ parts_kept s es t form is kept

-- a fault of the parts is the item's
pub same_refusal : (r : Result Entry TermFlaw) (f : TermFault) → Tells r f
    → Tells (result_and_then r (λ e. Ok (Some e))) f
same_refusal r f (inl m) = inl m
same_refusal r f (inr i) = inr (ap (λ q. result_and_then q (λ e. Ok (Some e))) i)

-- a sort, parameters and a rank that fit
pub repeated_by : (s : Signature) (form : ItemForm) (ps : List (List ℕ × Sort)) (sort : Sort) (b : Bool)
    → parameters_named (sort_names_of s) [] form.parameters ≡ Ok ps
    → sort_named (sort_names_of s) form.sort ≡ Ok sort
    → has_rank_of (entry_named s.entries form.name) (map (λ p. p.1) ps) sort ≡ b
    → repeated_in s form ≡ by_test b
repeated_by s form ps sort b bound sorted ranked =
    ap (λ r. result_and_then r
    (λ qs. result_and_then (sort_named (sort_names_of s) form.sort) (by_rank s form qs))) bound
    ∙ ap (λ r. result_and_then r (by_rank s form ps)) sorted ∙ ap by_test ranked

-- the same by what a library says of the parts
pub repeated_as : (library : Library) (s : Signature) (form : ItemForm) (ps : List (List ℕ × Sort)) (sort : Sort)
    (b : Bool) → StandsFor library s
    → parameters_named (sort_names library.sorts) [] form.parameters ≡ Ok ps
    → Ok sort ≡ sort_named (sort_names library.sorts) form.sort
    → has_rank_of (entry_named s.entries form.name) (map (λ p. p.1) ps) sort ≡ b
    → repeated_in s form ≡ by_test b
repeated_as library s form ps sort b stands bound sorted ranked =
    repeated_by s form ps sort b
    (ap (λ sorts. parameters_named sorts [] form.parameters) (sym (sorts_as library s stands)) ∙ bound)
    (ap (λ sorts. sort_named sorts form.sort) (sym (sorts_as library s stands)) ∙ sym sorted) ranked
