-- Terms that bind variables, and annotated terms, one step at a time.
use Rattle.std.proofs.Common.{◌≡◌, ℕ, Bool, true, false, cond, List, [], ◌∷◌, ◌++◌, Option, Some, None}
use Rattle.std.proofs.Common.{is_some, Result, Ok, Err, refl, ap, sym, ◌∙◌, inl, inr}
use Rattle.smt_trees.specs.Sexp.{Sexp, Sexps, Reserved, Items, Nil, Cons}
use Rattle.smt_trees.specs.declared.reserved.Word.TheVariants.{Bang, Let}
use Rattle.smt_theory.specs.Words.{look_up, result_and_then}
use Rattle.smt_theory.specs.Sort.{Sort}
use Rattle.smt_forms.specs.Bindings.{are_attributes, are_bindings}
use Rattle.smt_terms.specs.Internal.SoFar.{binding}
use Rattle.smt_terms.specs.Checking.{bound_in, flaw_of_labels, sort_in, unless}
use Rattle.smt_forms.specs.Labels.{labels_among, labels_in, labels_in_bindings}
use Rattle.smt_terms.specs.Signature.{Names, behind}
use Rattle.smt_faults.specs.declared.term_flaw.TermFlaw.{TermFlaw}
use Rattle.smt_faults.specs.declared.term_flaw.TermFlaw.TheVariants.{BoundTwice, Form}
use Rattle.smt_terms.proofs.CheckerLemmas.{Scope}
use Rattle.smt_faults.specs.Outcome.{Tells, TellsSome, flaw_told}
use Rattle.smt_faults.specs.declared.term_fault.TermFault.{TermFault}

-- ## Bindings

-- one variable more
pub bound_in-next : (names later : Names) (scope bound after : Scope) (x : List ℕ) (term : Sexp)
    (rest left : Sexps) (sort : Sort) → later ≡ behind (labels_in term) names
    → left ≡ Cons (binding x term) rest
    → is_some (look_up bound x) ≡ false → sort_in names scope term ≡ Ok sort → after ≡ bound ++ (x, sort) ∷ []
    → bound_in names scope bound left ≡ bound_in later scope after rest
bound_in-next names later scope bound after x term rest left sort next split new is more =
    rw (split, new, is, more, next) refl

-- a name that is bound twice
pub bound_in-twice : (names : Names) (scope bound : Scope) (x : List ℕ) (term : Sexp) (rest left : Sexps)
    → left ≡ Cons (binding x term) rest → is_some (look_up bound x) ≡ true
    → bound_in names scope bound left ≡ Err BoundTwice
bound_in-twice names scope bound x term rest left split twice = rw (split, twice) refl

-- a fault of a term
pub bound_in-fault : (names : Names) (scope bound : Scope) (x : List ℕ) (term : Sexp) (rest left : Sexps)
    (e : TermFault) → left ≡ Cons (binding x term) rest
    → is_some (look_up bound x) ≡ false → Tells (sort_in names scope term) e
    → Tells (bound_in names scope bound left) e
bound_in-fault names scope bound x term rest left e split new (inl m) = inl m
bound_in-fault names scope bound x term rest left e split new (inr is) = inr (rw (split, new, is) refl)

-- ## Lets

-- the sort of a `let` of these arguments
abbrev pub let_in : Names → Scope → Sexps → Result Sort TermFlaw
let_in names scope args = sort_in names scope (Items (Cons (Reserved Let) args))

-- the sort of its body over the variables
abbrev body_in : Names → Scope → Sexps → Sexp → Scope → Result Sort TermFlaw
body_in names scope bindings body bound =
    sort_in (behind (labels_in_bindings bindings) names) (bound ++ scope) body

-- a `let` with bindings and a body
pub let_with_parts : (names : Names) (scope : Scope) (args bindings : Sexps) (body : Sexp) (b : Bool)
    → args ≡ Cons (Items bindings) (Cons body Nil) → are_bindings bindings ≡ b
    → let_in names scope args
    ≡ cond b (result_and_then (bound_in names scope [] bindings) (body_in names scope bindings body))
    (Err Form)
let_with_parts names scope args bindings body b split is =
    ap (λ ts. let_in names scope ts) split ∙ ap
    (λ c. cond c (result_and_then (bound_in names scope [] bindings) (body_in names scope bindings body))
    (Err Form)) is

-- a fault of the bindings is its fault
pub fault_of_bindings : (names : Names) (scope : Scope) (args bindings : Sexps) (body : Sexp) (e : TermFault)
    → args ≡ Cons (Items bindings) (Cons body Nil) → are_bindings bindings ≡ true
    → Tells (bound_in names scope [] bindings) e
    → Tells (let_in names scope args) e
fault_of_bindings names scope args bindings body e split is (inl m) = inl m
fault_of_bindings names scope args bindings body e split is (inr h) =
    inr (let_with_parts names scope args bindings body true split is ∙ ap
    (λ r. result_and_then r (body_in names scope bindings body)) h)

-- and its sort is that of its body over the variables
pub let_of_body : (names later : Names) (scope inner bound : Scope) (args bindings : Sexps) (body : Sexp)
    → later ≡ behind (labels_in_bindings bindings) names → args ≡ Cons (Items bindings) (Cons body Nil)
    → are_bindings bindings ≡ true
    → bound_in names scope [] bindings ≡ Ok bound → inner ≡ bound ++ scope
    → let_in names scope args ≡ sort_in later inner body
let_of_body names later scope inner bound args bindings body next split is h more =
    let_with_parts names scope args bindings body true split is ∙ ap
    (λ r. result_and_then r (body_in names scope bindings body)) h
    ∙ ap (λ vs. sort_in (behind (labels_in_bindings bindings) names) vs body) (sym more) ∙ ap
    (λ (ns : Names). sort_in ns inner body) (sym next)

-- ## Annotated terms

-- the sort of a term annotated so
abbrev pub bang_in : Names → Scope → Sexps → Result Sort TermFlaw
bang_in names scope args = sort_in names scope (Items (Cons (Reserved Bang) args))

-- the same, where the term has this sort
abbrev labelled_in : Names → Scope → Sexps → Sexp → Sort → Result Sort TermFlaw
labelled_in names scope attributes term sort =
    unless (flaw_of_labels (behind (labels_in term) names) scope term (labels_among attributes)) (Ok sort)

pub bang_with_parts : (names : Names) (scope : Scope) (args attributes : Sexps) (term : Sexp) (b : Bool)
    → args ≡ Cons term attributes → are_attributes attributes ≡ b
    → bang_in names scope args
    ≡ cond b (result_and_then (sort_in names scope term) (labelled_in names scope attributes term))
    (Err Form)
bang_with_parts names scope args attributes term b split is =
    ap (λ ts. bang_in names scope ts) split ∙ ap
    (λ c. cond c (result_and_then (sort_in names scope term) (labelled_in names scope attributes term))
    (Err Form)) is

-- a fault of its labels comes after those of the term
annotated_by : (names later : Names) (scope : Scope) (args attributes : Sexps) (term : Sexp) (sort : Sort)
    (o : Option TermFlaw) → later ≡ behind (labels_in term) names → args ≡ Cons term attributes
    → are_attributes attributes ≡ true
    → sort_in names scope term ≡ Ok sort → flaw_of_labels later scope term (labels_among attributes) ≡ o
    → bang_in names scope args ≡ unless o (Ok sort)
annotated_by names later scope args attributes term sort o next split is h fault =
    bang_with_parts names scope args attributes term true split is ∙ ap
    (λ r. result_and_then r (labelled_in names scope attributes term)) h
    ∙ ap (λ (ns : Names). unless (flaw_of_labels ns scope term (labels_among attributes)) (Ok sort))
    (sym next) ∙ ap (λ p. unless p (Ok sort)) fault

pub annotated : (names later : Names) (scope : Scope) (args attributes : Sexps) (term : Sexp) (sort : Sort)
    → later ≡ behind (labels_in term) names → args ≡ Cons term attributes → are_attributes attributes ≡ true
    → sort_in names scope term ≡ Ok sort → flaw_of_labels later scope term (labels_among attributes) ≡ None
    → bang_in names scope args ≡ Ok sort
annotated names later scope args attributes term sort =
    annotated_by names later scope args attributes term sort None

pub fault_of_annotation : (names later : Names) (scope : Scope) (args attributes : Sexps) (term : Sexp)
    (sort : Sort) (e : TermFault) → later ≡ behind (labels_in term) names → args ≡ Cons term attributes
    → are_attributes attributes ≡ true
    → sort_in names scope term ≡ Ok sort
    → TellsSome (flaw_of_labels later scope term (labels_among attributes)) e
    → Tells (bang_in names scope args) e
fault_of_annotation names later scope args attributes term sort e next split is h (inl m) = inl m
fault_of_annotation names later scope args attributes term sort e next split is h (inr fault) =
    inr (annotated_by names later scope args attributes term sort (Some (flaw_told e)) next split is h fault)
