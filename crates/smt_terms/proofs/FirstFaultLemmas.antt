-- Which of two faults of a term, or of an item, comes first.
use Rattle.std.proofs.Common.{◌≡◌, ℕ, List, [], ◌∷◌, ◌++◌, Bool, true, false, not, ◌&&◌, ◌||◌, Option, None, Some}
use Rattle.std.proofs.Common.{is_some}
use Rattle.std.proofs.Common.{Result, Ok, Err, if◌then◌else◌, map, refl, ap, ◌∙◌}
use Rattle.std.specs.Option.{option_or}
use Rattle.smt_trees.specs.Sexp.{Sexp, Sexps, Atom, Cons, Items, Nil, Reserved, Symbol}
use Rattle.smt_trees.specs.declared.reserved.Word.TheVariants.{Bang, Let}
use Rattle.smt_theory.specs.Operators.{op_by}
use Rattle.smt_theory.specs.Shapes.{are_exactly}
use Rattle.smt_theory.specs.Words.{look_up, result_and_then}
use Rattle.smt_theory.specs.declared.op.OpFault.TheVariants as ops
use Rattle.smt_theory.specs.Sort.{Sort}
use Rattle.smt_forms.specs.Bindings.{are_attributes, are_bindings}
use Rattle.smt_forms.specs.Identifier.{Plain}
use Rattle.smt_forms.specs.ItemForm.{ItemForm}
use Rattle.smt_forms.specs.Labels.{labels_among, labels_in, labels_in_bindings}
use Rattle.smt_forms.specs.Variables.{is_among, uses_variable}
use Rattle.smt_terms.specs.Checking.{bound_in, flaw_of_label, flaw_of_labels, sort_applied, sort_in, sort_of_call}
use Rattle.smt_terms.specs.Checking.{sort_of_operator, sort_of_plain, sort_unless_variable, sorts_in, unless}
use Rattle.smt_terms.specs.Definitions.{definition_in, parameters_named}
use Rattle.smt_terms.specs.Freshness.{is_element_name, is_taken, name_flaw}
use Rattle.smt_terms.specs.Items.{defined_as, form_in, has_rank_of, is_set_aside, item_by, items_before}
use Rattle.smt_terms.specs.Items.{repeated_in}
use Rattle.smt_terms.specs.Labels.{Given, Labels, Refused, with_labels}
use Rattle.smt_terms.specs.Signature.{Entry, Names, Rank, Signature, behind, declared_named, entry_named, names_of}
use Rattle.smt_terms.specs.Signature.{sort_names_of}
use Rattle.smt_terms.specs.SortTrees.{sort_named}
use Rattle.smt_faults.specs.declared.term_flaw.TermFlaw.{TermFlaw}
use Rattle.smt_faults.specs.declared.term_flaw.TermFlaw.TheVariants.{BoundTwice, Form, IllSorted, Label, NotFresh}
use Rattle.smt_faults.specs.declared.term_flaw.TermFlaw.TheVariants.{Unknown}
use Rattle.smt_terms.proofs.CheckerLemmas.{Scope}
use Rattle.smt_terms.proofs.NameLemmas.{same_self}

-- ---- applications

pub among : (names : Names) (scope : Scope) (x : Sexp) (xs : Sexps) (flaw : TermFlaw)
    → sort_in names scope x ≡ Err flaw → sorts_in names scope (Cons x xs) ≡ Err flaw
among names scope x xs flaw h =
    ap (λ r. result_and_then r
    (λ s. result_and_then (sorts_in (behind (labels_in x) names) scope xs) (λ ss. Ok (s ∷ ss)))) h

among_later : (names : Names) (scope : Scope) (x : Sexp) (xs : Sexps) (sort : Sort) (flaw : TermFlaw)
    → sort_in names scope x ≡ Ok sort → sorts_in (behind (labels_in x) names) scope xs ≡ Err flaw
    → sorts_in names scope (Cons x xs) ≡ Err flaw
among_later names scope x xs sort flaw h g =
    ap (λ r. result_and_then r
    (λ s. result_and_then (sorts_in (behind (labels_in x) names) scope xs) (λ ss. Ok (s ∷ ss)))) h
    ∙ ap (λ r. result_and_then r (λ ss. Ok (sort ∷ ss))) g

of_arguments : (names : Names) (scope : Scope) (f : List ℕ) (x : Sexp) (xs : Sexps)
    (r : Result (List Sort) TermFlaw) → sorts_in names scope (Cons x xs) ≡ r
    → sort_in names scope (Items (Cons (Atom Symbol f) (Cons x xs)))
    ≡ result_and_then r (λ ss. sort_of_call names scope (Plain f) ss)
of_arguments names scope f x xs r h = ap (λ q. result_and_then q (λ ss. sort_of_call names scope (Plain f) ss)) h

pub first_argument : (names : Names) (scope : Scope) (f : List ℕ) (x : Sexp) (xs : Sexps) (flaw : TermFlaw)
    → sort_in names scope x ≡ Err flaw
    → sort_in names scope (Items (Cons (Atom Symbol f) (Cons x xs))) ≡ Err flaw
first_argument names scope f x xs flaw h =
    of_arguments names scope f x xs (Err flaw) (among names scope x xs flaw h)

pub later_argument : (names : Names) (scope : Scope) (f : List ℕ) (x : Sexp) (xs : Sexps) (sort : Sort)
    (flaw : TermFlaw) → sort_in names scope x ≡ Ok sort → sorts_in (behind (labels_in x) names) scope xs ≡ Err flaw
    → sort_in names scope (Items (Cons (Atom Symbol f) (Cons x xs))) ≡ Err flaw
later_argument names scope f x xs sort flaw h g =
    of_arguments names scope f x xs (Err flaw) (among_later names scope x xs sort flaw h g)

pub variable_applied : (names : Names) (scope : Scope) (f : List ℕ) (x : Sexp) (xs : Sexps) (sorts : List Sort)
    (sort : Sort) → sorts_in names scope (Cons x xs) ≡ Ok sorts → look_up scope f ≡ Some sort
    → sort_in names scope (Items (Cons (Atom Symbol f) (Cons x xs))) ≡ Err IllSorted
variable_applied names scope f x xs sorts sort h is =
    of_arguments names scope f x xs (Ok sorts) h
    ∙ ap (λ o. sort_unless_variable o (sort_applied names (Plain f) sorts)) is

no_variable : (names : Names) (scope : Scope) (f : List ℕ) (x : Sexp) (xs : Sexps) (sorts : List Sort)
    (o : Option Rank) → sorts_in names scope (Cons x xs) ≡ Ok sorts → look_up scope f ≡ None
    → look_up names.ranks f ≡ o
    → sort_in names scope (Items (Cons (Atom Symbol f) (Cons x xs))) ≡ sort_of_plain names f o sorts
no_variable names scope f x xs sorts o h none is =
    of_arguments names scope f x xs (Ok sorts) h
    ∙ ap (λ v. sort_unless_variable v (sort_applied names (Plain f) sorts)) none
    ∙ ap (λ r. sort_of_plain names f r sorts) is

pub unknown_applied : (names : Names) (scope : Scope) (f : List ℕ) (x : Sexp) (xs : Sexps) (sorts : List Sort)
    → sorts_in names scope (Cons x xs) ≡ Ok sorts → look_up scope f ≡ None → look_up names.ranks f ≡ None
    → op_by names.theories f [] ≡ Err ops.Unknown
    → sort_in names scope (Items (Cons (Atom Symbol f) (Cons x xs))) ≡ Err Unknown
unknown_applied names scope f x xs sorts h none no_name no_op =
    no_variable names scope f x xs sorts None h none no_name ∙ ap (λ r. sort_of_operator r sorts) no_op

pub other_parameters : (names : Names) (scope : Scope) (f : List ℕ) (x : Sexp) (xs : Sexps) (sorts : List Sort)
    (rank : Rank) → sorts_in names scope (Cons x xs) ≡ Ok sorts → look_up scope f ≡ None
    → look_up names.ranks f ≡ Some rank → are_exactly rank.parameters sorts ≡ false
    → sort_in names scope (Items (Cons (Atom Symbol f) (Cons x xs))) ≡ Err IllSorted
other_parameters names scope f x xs sorts rank h none is other =
    no_variable names scope f x xs sorts (Some rank) h none is
    ∙ ap (λ b. if b then Ok rank.sort else Err IllSorted) other

-- ---- lets

of_form : (names : Names) (scope : Scope) (bindings : Sexps) (body : Sexp) (b : Bool) → are_bindings bindings ≡ b
    → sort_in names scope (Items (Cons (Reserved Let) (Cons (Items bindings) (Cons body Nil))))
    ≡ (if b
    then result_and_then (bound_in names scope [] bindings)
    (λ bound. sort_in (behind (labels_in_bindings bindings) names) (bound ++ scope) body) else Err Form)
of_form names scope bindings body b h =
    ap (λ c. if c
    then result_and_then (bound_in names scope [] bindings)
    (λ bound. sort_in (behind (labels_in_bindings bindings) names) (bound ++ scope) body) else Err Form) h

of_bindings : (names : Names) (scope : Scope) (bindings : Sexps) (body : Sexp) (r : Result Scope TermFlaw)
    → are_bindings bindings ≡ true → bound_in names scope [] bindings ≡ r
    → sort_in names scope (Items (Cons (Reserved Let) (Cons (Items bindings) (Cons body Nil))))
    ≡ result_and_then r (λ bound. sort_in (behind (labels_in_bindings bindings) names) (bound ++ scope) body)
of_bindings names scope bindings body r form h =
    of_form names scope bindings body true form
    ∙ ap (λ q. result_and_then q
    (λ bound. sort_in (behind (labels_in_bindings bindings) names) (bound ++ scope) body)) h

pub let_form : (names : Names) (scope : Scope) (bindings : Sexps) (body : Sexp) → are_bindings bindings ≡ false
    → sort_in names scope (Items (Cons (Reserved Let) (Cons (Items bindings) (Cons body Nil)))) ≡ Err Form
let_form names scope bindings body = of_form names scope bindings body false

pub let_term : (names : Names) (scope : Scope) (x : List ℕ) (term : Sexp) (rest : Sexps) (body : Sexp)
    (flaw : TermFlaw) → are_bindings (Cons (Items (Cons (Atom Symbol x) (Cons term Nil))) rest) ≡ true
    → sort_in names scope term ≡ Err flaw
    → sort_in names scope (Items (Cons (Reserved Let)
    (Cons (Items (Cons (Items (Cons (Atom Symbol x) (Cons term Nil))) rest)) (Cons body Nil)))) ≡ Err flaw
let_term names scope x term rest body flaw form h =
    of_bindings names scope (Cons (Items (Cons (Atom Symbol x) (Cons term Nil))) rest) body (Err flaw) form
    (ap (λ r. result_and_then r (λ s. bound_in (behind (labels_in term) names) scope ((x, s) ∷ []) rest)) h)

pub let_twice : (names : Names) (scope : Scope) (x : List ℕ) (term other : Sexp) (rest : Sexps) (body : Sexp)
    (sort : Sort) → are_bindings (Cons (Items (Cons (Atom Symbol x) (Cons term Nil)))
    (Cons (Items (Cons (Atom Symbol x) (Cons other Nil))) rest)) ≡ true
    → sort_in names scope term ≡ Ok sort
    → sort_in names scope (Items (Cons (Reserved Let)
    (Cons (Items (Cons (Items (Cons (Atom Symbol x) (Cons term Nil)))
    (Cons (Items (Cons (Atom Symbol x) (Cons other Nil))) rest))) (Cons body Nil)))) ≡ Err BoundTwice
let_twice names scope x term other rest body sort form h =
    let next : Sexps = Cons (Items (Cons (Atom Symbol x) (Cons other Nil))) rest in
    let inner = behind (labels_in term) names in
    of_bindings names scope (Cons (Items (Cons (Atom Symbol x) (Cons term Nil))) next) body (Err BoundTwice) form
    (ap (λ r. result_and_then r (λ s. bound_in inner scope ((x, s) ∷ []) next)) h
    ∙ ap (λ b. if is_some (if b then Some sort else None) then Err BoundTwice
    else result_and_then (sort_in inner scope other)
    (λ s. bound_in (behind (labels_in other) inner) scope ((x, sort) ∷ (x, s) ∷ []) rest)) (same_self x))

pub let_body : (names : Names) (scope bound : Scope) (bindings : Sexps) (body : Sexp) (flaw : TermFlaw)
    → are_bindings bindings ≡ true → bound_in names scope [] bindings ≡ Ok bound
    → sort_in (behind (labels_in_bindings bindings) names) (bound ++ scope) body ≡ Err flaw
    → sort_in names scope (Items (Cons (Reserved Let) (Cons (Items bindings) (Cons body Nil)))) ≡ Err flaw
let_body names scope bound bindings body flaw form h g =
    of_bindings names scope bindings body (Ok bound) form h ∙ g

-- ---- annotations

of_attributes : (names : Names) (scope : Scope) (term : Sexp) (attributes : Sexps) (b : Bool)
    → are_attributes attributes ≡ b
    → sort_in names scope (Items (Cons (Reserved Bang) (Cons term attributes)))
    ≡ (if b
    then result_and_then (sort_in names scope term)
    (λ s. unless (flaw_of_labels (behind (labels_in term) names) scope term (labels_among attributes)) (Ok s))
    else Err Form)
of_attributes names scope term attributes b h =
    ap (λ c. if c
    then result_and_then (sort_in names scope term)
    (λ s. unless (flaw_of_labels (behind (labels_in term) names) scope term (labels_among attributes)) (Ok s))
    else Err Form) h

of_term : (names : Names) (scope : Scope) (term : Sexp) (attributes : Sexps) (r : Result Sort TermFlaw)
    → are_attributes attributes ≡ true → sort_in names scope term ≡ r
    → sort_in names scope (Items (Cons (Reserved Bang) (Cons term attributes)))
    ≡ result_and_then r
    (λ s. unless (flaw_of_labels (behind (labels_in term) names) scope term (labels_among attributes)) (Ok s))
of_term names scope term attributes r form h =
    of_attributes names scope term attributes true form
    ∙ ap (λ q. result_and_then q
    (λ s. unless (flaw_of_labels (behind (labels_in term) names) scope term (labels_among attributes)) (Ok s))) h

pub annotation_form : (names : Names) (scope : Scope) (term : Sexp) (attributes : Sexps)
    → are_attributes attributes ≡ false
    → sort_in names scope (Items (Cons (Reserved Bang) (Cons term attributes))) ≡ Err Form
annotation_form names scope term attributes = of_attributes names scope term attributes false

pub annotation_term : (names : Names) (scope : Scope) (term : Sexp) (attributes : Sexps) (flaw : TermFlaw)
    → are_attributes attributes ≡ true → sort_in names scope term ≡ Err flaw
    → sort_in names scope (Items (Cons (Reserved Bang) (Cons term attributes))) ≡ Err flaw
annotation_term names scope term attributes flaw = of_term names scope term attributes (Err flaw)

-- where the first label has this flaw
of_label : (names : Names) (scope : Scope) (term : Sexp) (attributes : Sexps) (sort : Sort) (x : List ℕ)
    (xs : List (List ℕ)) → are_attributes attributes ≡ true → sort_in names scope term ≡ Ok sort
    → labels_among attributes ≡ x ∷ xs
    → flaw_of_label (behind (labels_in term) names) (behind (labels_in term) names).labels scope term x ≡ Some Label
    → sort_in names scope (Items (Cons (Reserved Bang) (Cons term attributes))) ≡ Err Label
of_label names scope term attributes sort x xs form h labels flaw =
    let inner = behind (labels_in term) names in
    of_term names scope term attributes (Ok sort) form h
    ∙ ap (λ ls. unless (flaw_of_labels inner scope term ls) (Ok sort)) labels
    ∙ ap (λ o. unless (option_or o (flaw_of_labels (behind ((x, term) ∷ []) inner) scope term xs)) (Ok sort)) flaw

pub label_refused : (names : Names) (scope : Scope) (term : Sexp) (attributes : Sexps) (sort : Sort) (x : List ℕ)
    (xs : List (List ℕ)) → are_attributes attributes ≡ true → sort_in names scope term ≡ Ok sort
    → labels_among attributes ≡ x ∷ xs → names.labels ≡ Refused
    → sort_in names scope (Items (Cons (Reserved Bang) (Cons term attributes))) ≡ Err Label
label_refused names scope term attributes sort x xs form h labels refused =
    of_label names scope term attributes sort x xs form h labels
    (ap (λ (ls : Labels). flaw_of_label (behind (labels_in term) names)
    (with_labels (map (λ l. l.0) (labels_in term)) ls) scope term x) refused)

pub label_open : (names : Names) (scope : Scope) (term : Sexp) (attributes : Sexps) (sort : Sort) (x : List ℕ)
    (xs given : List (List ℕ)) → are_attributes attributes ≡ true → sort_in names scope term ≡ Ok sort
    → labels_among attributes ≡ x ∷ xs → names.labels ≡ Given given → uses_variable scope term ≡ true
    → sort_in names scope (Items (Cons (Reserved Bang) (Cons term attributes))) ≡ Err Label
label_open names scope term attributes sort x xs given form h labels are used =
    let inner = behind (labels_in term) names in
    let more = map (λ l. l.0) (labels_in term) in
    of_label names scope term attributes sort x xs form h labels
    (ap (λ (ls : Labels). flaw_of_label inner (with_labels more ls) scope term x) are
    ∙ ap (λ b. if b then Some Label
    else (if is_taken inner x || is_among (given ++ more) x then Some NotFresh else None)) used)

-- ---- items

-- an item that is not set aside, by the flaw of its name
of_name : (script : Signature) (earlier : List Entry) (form : ItemForm) (o : Option TermFlaw)
    → is_set_aside script form.name ≡ false → name_flaw script earlier form.name ≡ o
    → item_by script earlier form
    ≡ result_and_then (unless o (result_and_then (parameters_named (sort_names_of script) [] form.parameters)
    (λ ps. result_and_then (sort_named (sort_names_of script) form.sort)
    (λ s. defined_as script earlier form ps s)))) (λ e. Ok (Some e))
of_name script earlier form o here is =
    ap (λ b. if b then repeated_in script form
    else result_and_then (form_in script earlier form) (λ e. Ok (Some e))) here
    ∙ ap (λ p. result_and_then (unless p (result_and_then (parameters_named (sort_names_of script) [] form.parameters)
    (λ ps. result_and_then (sort_named (sort_names_of script) form.sort)
    (λ s. defined_as script earlier form ps s)))) (λ e. Ok (Some e))) is

-- the flaw of a name
abbrev flaw_by : (before element declared taken : Bool) → Option TermFlaw
flaw_by before element declared taken =
    if before then Some BoundTwice else if element || (not declared && taken) then Some NotFresh else None

of_flaw : (script : Signature) (earlier : List Entry) (x : List ℕ) (before element declared : Bool)
    → is_some (entry_named earlier x) ≡ before → is_element_name script x ≡ element
    → is_some (declared_named script.entries x) ≡ declared
    → name_flaw script earlier x ≡ flaw_by before element declared (is_taken (names_of script) x)
of_flaw script earlier x before element declared h k g =
    let taken = is_taken (names_of script) x in
    ap (λ b. flaw_by b (is_element_name script x) (is_some (declared_named script.entries x)) taken) h
    ∙ ap (λ b. flaw_by before b (is_some (declared_named script.entries x)) taken) k
    ∙ ap (λ b. flaw_by before element b taken) g

pub item_twice : (script : Signature) (earlier : List Entry) (form : ItemForm)
    → is_set_aside script form.name ≡ false → is_some (entry_named earlier form.name) ≡ true
    → item_by script earlier form ≡ Err BoundTwice
item_twice script earlier form here before =
    of_name script earlier form (Some BoundTwice) here (of_flaw script earlier form.name true _ _ before refl refl)

pub item_element : (script : Signature) (earlier : List Entry) (form : ItemForm)
    → is_set_aside script form.name ≡ false → entry_named earlier form.name ≡ None
    → is_element_name script form.name ≡ true → item_by script earlier form ≡ Err NotFresh
item_element script earlier form here new is =
    of_name script earlier form (Some NotFresh) here
    (of_flaw script earlier form.name false true _ (ap is_some new) is refl)

pub item_taken : (script : Signature) (earlier : List Entry) (form : ItemForm)
    → is_set_aside script form.name ≡ false → entry_named earlier form.name ≡ None
    → declared_named script.entries form.name ≡ None → is_taken (names_of script) form.name ≡ true
    → item_by script earlier form ≡ Err NotFresh
item_taken script earlier form here new none taken =
    of_name script earlier form (Some NotFresh) here
    (of_flaw script earlier form.name false _ false (ap is_some new) refl (ap is_some none)
    ∙ ap (flaw_by false (is_element_name script form.name) false) taken ∙ either (is_element_name script form.name))
  where
    either : (b : Bool) → flaw_by false b false true ≡ Some NotFresh
    either true = refl
    either false = refl

-- an item of a declared name, by its parameters
of_parameters : (script : Signature) (earlier : List Entry) (form : ItemForm) (e : Entry)
    (r : Result Scope TermFlaw) → is_set_aside script form.name ≡ false → entry_named earlier form.name ≡ None
    → is_element_name script form.name ≡ false → declared_named script.entries form.name ≡ Some e
    → parameters_named (sort_names_of script) [] form.parameters ≡ r
    → item_by script earlier form
    ≡ result_and_then (result_and_then r (λ ps. result_and_then (sort_named (sort_names_of script) form.sort)
    (λ s. defined_as script earlier form ps s))) (λ e. Ok (Some e))
of_parameters script earlier form e r here new apart is h =
    of_name script earlier form None here
    (of_flaw script earlier form.name false false true (ap is_some new) apart (ap is_some is))
    ∙ ap (λ q. result_and_then (result_and_then q
    (λ ps. result_and_then (sort_named (sort_names_of script) form.sort)
    (λ s. defined_as script earlier form ps s))) (λ e. Ok (Some e))) h

pub item_parameters : (script : Signature) (earlier : List Entry) (form : ItemForm) (e : Entry) (flaw : TermFlaw)
    → is_set_aside script form.name ≡ false → entry_named earlier form.name ≡ None
    → is_element_name script form.name ≡ false → declared_named script.entries form.name ≡ Some e
    → parameters_named (sort_names_of script) [] form.parameters ≡ Err flaw → item_by script earlier form ≡ Err flaw
item_parameters script earlier form e flaw = of_parameters script earlier form e (Err flaw)

of_sort : (script : Signature) (earlier : List Entry) (form : ItemForm) (e : Entry) (parameters : Scope)
    (r : Result Sort TermFlaw) → is_set_aside script form.name ≡ false → entry_named earlier form.name ≡ None
    → is_element_name script form.name ≡ false → declared_named script.entries form.name ≡ Some e
    → parameters_named (sort_names_of script) [] form.parameters ≡ Ok parameters
    → sort_named (sort_names_of script) form.sort ≡ r
    → item_by script earlier form
    ≡ result_and_then (result_and_then r (λ s. defined_as script earlier form parameters s)) (λ e. Ok (Some e))
of_sort script earlier form e parameters r here new apart is h g =
    of_parameters script earlier form e (Ok parameters) here new apart is h
    ∙ ap (λ q. result_and_then (result_and_then q (λ s. defined_as script earlier form parameters s))
    (λ e. Ok (Some e))) g

pub item_sort : (script : Signature) (earlier : List Entry) (form : ItemForm) (e : Entry) (parameters : Scope)
    (flaw : TermFlaw) → is_set_aside script form.name ≡ false → entry_named earlier form.name ≡ None
    → is_element_name script form.name ≡ false → declared_named script.entries form.name ≡ Some e
    → parameters_named (sort_names_of script) [] form.parameters ≡ Ok parameters
    → sort_named (sort_names_of script) form.sort ≡ Err flaw → item_by script earlier form ≡ Err flaw
item_sort script earlier form e parameters flaw = of_sort script earlier form e parameters (Err flaw)

pub item_rank : (script : Signature) (earlier : List Entry) (form : ItemForm) (e : Entry) (parameters : Scope)
    (sort : Sort) → is_set_aside script form.name ≡ false → entry_named earlier form.name ≡ None
    → is_element_name script form.name ≡ false → declared_named script.entries form.name ≡ Some e
    → parameters_named (sort_names_of script) [] form.parameters ≡ Ok parameters
    → sort_named (sort_names_of script) form.sort ≡ Ok sort
    → has_rank_of (Some e) (map (λ p. p.1) parameters) sort ≡ false → item_by script earlier form ≡ Err IllSorted
item_rank script earlier form e parameters sort here new apart is h g other =
    let body = definition_in (names_of (items_before script earlier)) form.name parameters sort form.body in
    of_sort script earlier form e parameters (Ok sort) here new apart is h g
    ∙ ap (λ o. result_and_then (if not (has_rank_of o (map (λ p. p.1) parameters) sort) then Err IllSorted else body)
    (λ e. Ok (Some e))) is
    ∙ ap (λ b. result_and_then (if not b then Err IllSorted else body) (λ e. Ok (Some e))) other
