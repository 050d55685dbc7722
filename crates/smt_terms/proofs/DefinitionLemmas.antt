-- Definitions, one step at a time.
use Rattle.std.proofs.Common.{◌≡◌, ℕ, Bool, false, cond, List, [], Result, Ok, Err, ap, sym, ◌∙◌, inl}
use Rattle.std.proofs.Common.{inr}
use Rattle.smt_trees.specs.Sexp.{Sexp}
use Rattle.smt_theory.specs.Sort.{is_same_sort}
use Rattle.smt_theory.specs.Words.{result_and_then}
use Rattle.smt_theory.specs.Sort.{Sort}
use Rattle.smt_terms.specs.Checking.{sort_in}
use Rattle.smt_terms.specs.Definitions.{defined_in, definition, definition_in, parameters_named}
use Rattle.smt_terms.specs.Internal.LibraryView.{names_of_library, sort_names}
use Rattle.smt_terms.specs.Library.{StandsFor}
use Rattle.smt_terms.specs.Freshness.{is_taken}
use Rattle.smt_terms.specs.Signature.{Names, Signature, names_of, sort_names_of}
use Rattle.smt_terms.specs.SortTrees.{sort_named}
use Rattle.smt_faults.specs.declared.term_flaw.TermFlaw.{TermFlaw}
use Rattle.smt_faults.specs.declared.term_flaw.TermFlaw.TheVariants.{IllSorted, NotFresh}
use Rattle.smt_terms.specs.declared.library.Library.{Library}
use Rattle.smt_terms.proofs.ItemLemmas.{Params, names_as, sorts_as}
use Rattle.smt_faults.specs.Outcome.{Tells}
use Rattle.smt_faults.specs.declared.term_fault.TermFault.{TermFault}

-- a definition whose body has a sort
pub definition_by : (names library : Names) (x : List ℕ) (ps : Params) (sort found : Sort) (body : Sexp)
    (b : Bool) → library ≡ names → sort_in library ps body ≡ Ok found → is_same_sort found sort ≡ b
    → definition_in names x ps sort body ≡ cond b (Ok (definition x ps sort body)) (Err IllSorted)
definition_by names library x ps sort found body b same is fits =
    ap (λ n. definition_in n x ps sort body) (sym same) ∙ ap
    (λ r. result_and_then r (λ z. cond (is_same_sort z sort) (Ok (definition x ps sort body))
    (Err IllSorted))) is
    ∙ ap (λ c. cond c (Ok (definition x ps sort body)) (Err IllSorted)) fits

-- and one whose body has a fault
pub fault_of_body : (names library : Names) (x : List ℕ) (ps : Params) (sort : Sort) (body : Sexp)
    (e : TermFault) → library ≡ names → Tells (sort_in library ps body) e
    → Tells (definition_in names x ps sort body) e
fault_of_body names library x ps sort body e same (inl m) = inl m
fault_of_body names library x ps sort body e same (inr h) =
    inr (ap (λ n. definition_in n x ps sort body) (sym same) ∙ ap
    (λ r. result_and_then r (λ z. cond (is_same_sort z sort) (Ok (definition x ps sort body))
    (Err IllSorted))) h)

-- what a definition of a name that is not taken brings
pub defined-free : (s : Signature) (x : List ℕ) (params : List (List ℕ × Sexp)) (tree body : Sexp)
    → is_taken (names_of s) x ≡ false
    → defined_in s x params tree body
    ≡ result_and_then (parameters_named (sort_names_of s) [] params)
    (λ ps. result_and_then (sort_named (sort_names_of s) tree)
    (λ sort. definition_in (names_of s) x ps sort body))
defined-free s x params tree body free =
    ap (λ b. cond b (Err NotFresh)
    (result_and_then (parameters_named (sort_names_of s) [] params)
    (λ ps. result_and_then (sort_named (sort_names_of s) tree)
    (λ sort. definition_in (names_of s) x ps sort body)))) free

-- with parameters that have sorts
pub defined-bound : (s : Signature) (x : List ℕ) (params : List (List ℕ × Sexp)) (tree body : Sexp)
    (ps : Params) → is_taken (names_of s) x ≡ false → parameters_named (sort_names_of s) [] params ≡ Ok ps
    → defined_in s x params tree body
    ≡ result_and_then (sort_named (sort_names_of s) tree)
    (λ sort. definition_in (names_of s) x ps sort body)
defined-bound s x params tree body ps free bound =
    defined-free s x params tree body free ∙ ap
    (λ r. result_and_then r (λ qs. result_and_then (sort_named (sort_names_of s) tree)
    (λ sort. definition_in (names_of s) x qs sort body))) bound

-- and with a sort
pub defined-sorted : (s : Signature) (x : List ℕ) (params : List (List ℕ × Sexp)) (tree body : Sexp)
    (ps : Params) (sort : Sort) → is_taken (names_of s) x ≡ false
    → parameters_named (sort_names_of s) [] params ≡ Ok ps → sort_named (sort_names_of s) tree ≡ Ok sort
    → defined_in s x params tree body ≡ definition_in (names_of s) x ps sort body
defined-sorted s x params tree body ps sort free bound sorted =
    defined-bound s x params tree body ps free bound ∙ ap
    (λ r. result_and_then r (λ z. definition_in (names_of s) x ps z body)) sorted

-- a refusal of what is the same
pub same_fault : {A : Type 0} (r s : Result A TermFlaw) (e : TermFault) → s ≡ r → Tells (r) e
    → Tells (s) e
same_fault r s e h (inl m) = inl m
same_fault r s e h (inr i) = inr (h ∙ i)

-- what a definition brings by what a library says of its parts
pub define_step : (library : Library) (s : Signature) (x : List ℕ) (params : List (List ℕ × Sexp))
    (tree body : Sexp) (ps rs : Params) (sort : Sort) → StandsFor library s
    → is_taken (names_of_library library) x ≡ false
    → parameters_named (sort_names library.sorts) [] params ≡ Ok ps
    → Ok sort ≡ sort_named (sort_names library.sorts) tree → rs ≡ ps
    → defined_in s x params tree body ≡ definition_in (names_of s) x rs sort body
define_step library s x params tree body ps rs sort stands free bound sorted same =
    defined-sorted s x params tree body ps sort
    (ap (λ n. is_taken n x) (sym (names_as library s stands)) ∙ free)
    (ap (λ sorts. parameters_named sorts [] params) (sym (sorts_as library s stands)) ∙ bound)
    (ap (λ sorts. sort_named sorts tree) (sym (sorts_as library s stands)) ∙ sym sorted) ∙ ap
    (λ (vs : Params). definition_in (names_of s) x vs sort body) (sym same)
