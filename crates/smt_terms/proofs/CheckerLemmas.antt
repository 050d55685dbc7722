-- Sorts of lists, one step at a time.
use Rattle.std.proofs.Common.{Bool, ◌≡◌, ℕ, true, false, List, [], ◌∷◌, ◌++◌, Option, Some, None, is_some}
use Rattle.std.proofs.Common.{Result, Ok, Err, refl, sym, ap, ◌∙◌, append_assoc, append-nil, inl, inr}
use Rattle.smt_trees.specs.Sexp.{Sexp, Sexps, Reserved, Items, Cons, Nil}
use Rattle.smt_trees.specs.declared.reserved.Word.TheVariants.{As, Bang, Let, Underscore}
use Rattle.smt_theory.specs.Words.{look_up, result_and_then}
use Rattle.smt_theory.specs.Sort.{Sort}
use Rattle.smt_forms.specs.Heads.{begins_indexed}
use Rattle.smt_terms.specs.Internal.SoFar.{IsPlainHead, sorts_behind}
use Rattle.smt_terms.specs.Checking.{sort_in, sorts_in, sort_applied, sort_of_call, sort_unless_variable, sort_of_rank}
use Rattle.smt_forms.specs.Identifier.{Identifier, Plain, Indexed, Qualified, applied, applied_in, indexed}
use Rattle.smt_forms.specs.Identifier.{of_profile}
use Rattle.smt_theory.specs.Ranks.{rank_of}
use Rattle.smt_terms.specs.Elements.{constant_op}
use Rattle.smt_forms.specs.Heads.{begins_annotated, begins_let, begins_qualified}
use Rattle.smt_terms.specs.Internal.Calls.{names_variable}
use Rattle.smt_forms.specs.Labels.{labels_in}
use Rattle.smt_terms.specs.Signature.{Names, behind}
use Rattle.smt_faults.specs.declared.term_flaw.TermFlaw.{TermFlaw}
use Rattle.smt_faults.specs.declared.term_flaw.TermFlaw.TheVariants.{IllSorted}
use Rattle.smt_faults.specs.Faults.{flaw_of_term_fault}
use Rattle.smt_faults.specs.Outcome.{IsOutcome, Tells}
use Rattle.smt_faults.specs.declared.term_fault.TermFault.{TermFault}

-- variables with their sorts
abbrev pub Scope : Type 0
Scope = List (List ℕ × Sort)

-- at first no sort is done
pub sorts_behind-start : (names : Names) (scope : Scope) (before : List Sort) (left : Sexps) → before ≡ []
    → sorts_in names scope left ≡ sorts_behind names scope before left
sorts_behind-start names scope before left none = rw none (by (sorts_in names scope left))
  where
    by : (r : Result (List Sort) TermFlaw) → r ≡ result_and_then r (λ ss. Ok ([] ++ ss))
    by (Ok ss) = refl
    by (Err f) = refl

-- and at last no term is left
pub sorts_behind-end : (names : Names) (scope : Scope) (before : List Sort) (left : Sexps) → left ≡ Nil
    → sorts_behind names scope before left ≡ Ok before
sorts_behind-end names scope before left none =
    ap (λ ts. sorts_behind names scope before ts) none ∙ ap Ok (append-nil before)

-- one sort more
pub sorts_behind-next : (names later : Names) (scope : Scope) (before after : List Sort) (x : Sexp)
    (xs left : Sexps) (sort : Sort) → later ≡ behind (labels_in x) names → left ≡ Cons x xs
    → sort_in names scope x ≡ Ok sort
    → after ≡ before ++ sort ∷ [] → sorts_behind names scope before left ≡ sorts_behind later scope after xs
sorts_behind-next names later scope before after x xs left sort next split is more =
    rw (split, is, more, next) (by (sorts_in (behind (labels_in x) names) scope xs))
  where
    by : (r : Result (List Sort) TermFlaw)
        → result_and_then (result_and_then r (λ ss. Ok (sort ∷ ss))) (λ ss. Ok (before ++ ss))
        ≡ result_and_then r (λ ss. Ok ((before ++ sort ∷ []) ++ ss))
    by (Ok ss) = ap Ok (sym (append_assoc before (sort ∷ []) ss))
    by (Err f) = refl

-- a fault of one sort is that of all
pub sorts_behind-fault : (names : Names) (scope : Scope) (before : List Sort) (x : Sexp) (xs left : Sexps)
    (e : TermFault) → left ≡ Cons x xs → Tells (sort_in names scope x) e
    → Tells (sorts_behind names scope before left) e
sorts_behind-fault names scope before x xs left e split (inl m) = inl m
sorts_behind-fault names scope before x xs left e split (inr is) = inr (rw (split, is) refl)

-- a head that is `_`
pub underscore_head : (head : Sexp) → begins_indexed head ≡ true → head ≡ Reserved Underscore
underscore_head (Reserved Underscore) h = refl
underscore_head _ h = cc

-- so is one that is `let`, and one that is `!`
pub let_head : (head : Sexp) → begins_let head ≡ true → head ≡ Reserved Let
let_head (Reserved Let) h = refl
let_head _ h = cc

pub bang_head : (head : Sexp) → begins_annotated head ≡ true → head ≡ Reserved Bang
bang_head (Reserved Bang) h = refl
bang_head _ h = cc

-- and one that is `as`
pub as_head : (head : Sexp) → begins_qualified head ≡ true → head ≡ Reserved As
as_head (Reserved As) h = refl
as_head _ h = cc

-- a list with another head applies an identifier, or is out of form
pub other_head : (names : Names) (scope : Scope) (head : Sexp) (args : Sexps)
    → begins_indexed head ≡ false → begins_let head ≡ false → begins_annotated head ≡ false
    → begins_qualified head ≡ false → sort_in names scope (Items (Cons head args))
    ≡ result_and_then (applied_in names.theories.wide head args)
    (λ f. result_and_then (sorts_in names scope args) (λ ss. sort_of_call names scope f ss))
other_head names scope (Reserved Underscore) args h i j k = cc
other_head names scope (Reserved As) args h i j k = cc
other_head names scope (Reserved Let) args h i j k = cc
other_head names scope (Reserved Bang) args h i j k = cc
other_head names scope _ args h i j k = refl

-- a call of a variable is ill sorted
pub call_of_variable : (names : Names) (scope : Scope) (f : Identifier) (ss : List Sort)
    → names_variable scope f ≡ true → sort_of_call names scope f ss ≡ Err IllSorted
call_of_variable names scope (Plain f) ss h = by (look_up scope f) h
  where
    by : (o : Option Sort) → is_some o ≡ true
        → sort_unless_variable o (sort_applied names (Plain f) ss) ≡ Err IllSorted
    by None g = cc
    by (Some sort) g = refl
call_of_variable names scope (Indexed f is) ss h = cc
call_of_variable names scope (Qualified sort) ss h = cc

-- and one of another identifier is an application
pub call_of_name : (names : Names) (scope : Scope) (f : Identifier) (ss : List Sort)
    → names_variable scope f ≡ false → sort_of_call names scope f ss ≡ sort_applied names f ss
call_of_name names scope (Plain f) ss h = by (look_up scope f) h
  where
    by : (o : Option Sort) → is_some o ≡ false
        → sort_unless_variable o (sort_applied names (Plain f) ss) ≡ sort_applied names (Plain f) ss
    by None g = refl
    by (Some sort) g = cc
call_of_name names scope (Indexed f is) ss h = refl
call_of_name names scope (Qualified sort) ss h = refl

-- a fault of the sort of a constant array is that of its application
pub constant_fault : (names : Names) (sort : Sexp) (args : List Sort) (e : TermFault)
    → Tells (constant_op names.theories names.elements sort) e → Tells (sort_applied names (Qualified sort) args) e
constant_fault names sort args e (inl m) = inl m
constant_fault names sort args e (inr is) =
    inr (ap (λ r. result_and_then r (λ op. sort_of_rank (rank_of op args))) is)

-- what a list applies in a profile it applies
pub in_profile : (wide : Bool) (head : Sexp) (args : Sexps) (f : Identifier) → applied_in wide head args ≡ Ok f
    → applied head args ≡ Ok f
in_profile wide head args f h = by (applied head args) h
  where
    of : (b : Bool) (sort : Sexp) (r : Result Identifier TermFlaw) → r ≡ Ok (Qualified sort)
        → of_profile b (Qualified sort) ≡ Ok f → r ≡ Ok f
    of true sort r is g = is ∙ g
    of false sort r is g = cc

    by : (r : Result Identifier TermFlaw) → result_and_then r (of_profile wide) ≡ Ok f → r ≡ Ok f
    by (Ok (Plain x)) g = g
    by (Ok (Indexed x is)) g = g
    by (Ok (Qualified sort)) g = of wide sort (Ok (Qualified sort)) refl g
    by (Err flaw) g = cc

-- the sort of a list of parts, where its identifier and the sorts of its arguments are known
pub applied_ok : (names : Names) (scope : Scope) (head : Sexp) (args parts : Sexps) (f : Identifier)
    (ss : List Sort) → parts ≡ Cons head args → IsPlainHead head → applied_in names.theories.wide head args ≡ Ok f
    → sorts_in names scope args ≡ Ok ss
    → sort_in names scope (Items parts) ≡ sort_of_call names scope f ss
applied_ok names scope head args parts f ss split other is done =
    ap (λ ps. sort_in names scope (Items ps)) split ∙ other_head names scope head args other.no_index
    other.no_let other.no_bang other.no_as
    ∙ ap (λ r. result_and_then r
    (λ g. result_and_then (sorts_in names scope args) (λ ts. sort_of_call names scope g ts))) is
    ∙ ap (λ r. result_and_then r (λ ts. sort_of_call names scope f ts)) done

-- a fault of the form is the list's
pub fault_of_form : (names : Names) (scope : Scope) (head : Sexp) (args parts : Sexps) (e : TermFault)
    → parts ≡ Cons head args → IsPlainHead head → Tells (applied_in names.theories.wide head args) e
    → Tells (sort_in names scope (Items parts)) e
fault_of_form names scope head args parts e split other (inl m) = inl m
fault_of_form names scope head args parts e split other (inr is) =
    inr (ap (λ ps. sort_in names scope (Items ps)) split ∙ other_head names scope head args other.no_index
    other.no_let other.no_bang other.no_as ∙ ap
    (λ r. result_and_then r (λ g. result_and_then (sorts_in names scope args)
    (λ ts. sort_of_call names scope g ts))) is)

-- and one of the arguments
pub fault_of_args : (names : Names) (scope : Scope) (head : Sexp) (args parts : Sexps) (f : Identifier)
    (e : TermFault) → parts ≡ Cons head args → IsPlainHead head → applied_in names.theories.wide head args ≡ Ok f
    → Tells (sorts_in names scope args) e
    → Tells (sort_in names scope (Items parts)) e
fault_of_args names scope head args parts f e split other is (inl m) = inl m
fault_of_args names scope head args parts f e split other is (inr done) =
    inr (ap (λ ps. sort_in names scope (Items ps)) split ∙ other_head names scope head args other.no_index
    other.no_let other.no_bang other.no_as
    ∙ ap (λ r. result_and_then r
    (λ g. result_and_then (sorts_in names scope args) (λ ts. sort_of_call names scope g ts))) is
    ∙ ap (λ r. result_and_then r (λ ts. sort_of_call names scope f ts)) done)

-- the sort of an identifier with indexes alone
pub indexed_ok : (names : Names) (scope : Scope) (head : Sexp) (args parts : Sexps) (f : Identifier)
    → parts ≡ Cons head args → begins_indexed head ≡ true → indexed args ≡ Ok f
    → sort_in names scope (Items parts) ≡ sort_applied names f []
indexed_ok names scope head args parts f split is_head is =
    ap (λ ps. sort_in names scope (Items ps)) (split ∙ ap (λ h. Cons h args) (underscore_head head is_head)) ∙
    ap (λ r. result_and_then r (λ g. sort_applied names g [])) is

-- a flaw that is expected is told by the fault that it is made to
pub told : {A : Type 0} (expected : Result A TermFlaw) (flaw : TermFlaw) (fault : TermFault)
    → expected ≡ Err flaw → flaw_of_term_fault fault ≡ Some flaw → Tells expected fault
told expected flaw fault is made = inr (rw (is, made) refl)

-- an outcome is that of what is the same
pub carried : {A : Type 0} (r : Result A TermFault) (s t : Result A TermFlaw) → t ≡ s
    → IsOutcome (λ v. v) s r → IsOutcome (λ v. v) t r
carried (Ok v) s t e h = e ∙ h
carried (Err f) s t e (inl m) = inl m
carried (Err f) s t e (inr h) = inr (e ∙ h)
