-- SMT-LIB 2.6, section 4.2.6: the items of a printed model, which are definitions. The order of the faults is
-- this project's rule.
use Rattle.std.specs.Prelude.{ℕ, List, [], ◌∷◌, Bool, true, not, ◌&&◌, Option, Some, None, is_some, Result, Ok}
use Rattle.std.specs.Prelude.{Err, map, unwrap_or, if◌then◌else◌}
use Rattle.smt_trees.specs.Sexp.{Sexp, Sexps, Atom, Reserved, Items, Nil, Cons, Symbol}
use Rattle.smt_trees.specs.declared.reserved.Word.TheVariants.{DeclareFun, DeclareSort, Forall}
use Rattle.smt_theory.specs.Shapes.{are_exactly}
use Rattle.smt_theory.specs.Sort.{is_same_sort}
use Rattle.smt_theory.specs.Words.{result_and_then}
use Rattle.smt_theory.specs.Sort.{Sort}
use Rattle.smt_forms.specs.ItemForm.{ItemForm, item_form}
use Rattle.smt_terms.specs.Checking.{unless}
use Rattle.smt_terms.specs.Definitions.{definition_in, parameters_named}
use Rattle.smt_terms.specs.Elements.{element_sort}
use Rattle.smt_terms.specs.Freshness.{is_element_name, item_elements, name_flaw}
use Rattle.smt_terms.specs.Signature.{Entry, Signature, declared_named, entry_named, names_of, no_names}
use Rattle.smt_terms.specs.Signature.{sort_names_of}
use Rattle.smt_terms.specs.SortTrees.{sort_named}
use Rattle.smt_faults.specs.declared.term_flaw.TermFlaw.{TermFlaw}
use Rattle.smt_faults.specs.declared.term_flaw.TermFlaw.TheVariants.{Form, IllSorted, NotFresh}

-- a declared name keeps its rank
abbrev pub has_rank_of : Option Entry → List Sort → Sort → Bool
has_rank_of None parameters sort = true
has_rank_of (Some e) parameters sort = are_exactly e.parameters parameters && is_same_sort e.sort sort

-- the names that a body sees: the earlier items, the theories, and elements of the script's sorts
abbrev pub items_before : Signature → List Entry → Signature
items_before script earlier =
    record (no_names script.theories) { elements = item_elements script; entries = earlier }

-- what an item of this rank defines: the rank fits a declaration of its name, and its body has its sort over
-- the earlier items and its parameters
abbrev pub defined_as : Signature → List Entry → ItemForm → List (List ℕ × Sort) → Sort
    → Result Entry TermFlaw
defined_as script earlier form parameters sort =
    if not (has_rank_of (declared_named script.entries form.name) (map (λ p. p.1) parameters) sort)
    then Err IllSorted
    else definition_in (names_of (items_before script earlier)) form.name parameters sort form.body

-- what an item of these parts defines, or its first fault
abbrev pub form_in : Signature → List Entry → ItemForm → Result Entry TermFlaw
form_in script earlier form =
    unless (name_flaw script earlier form.name)
    (result_and_then (parameters_named (sort_names_of script) [] form.parameters)
    (λ ps. result_and_then (sort_named (sort_names_of script) form.sort)
    (λ s. defined_as script earlier form ps s)))

-- ---- items that are no part of a model

-- whether the script defines the name: it has it, and no command declared it
abbrev pub is_defined_in : Signature → List ℕ → Bool
is_defined_in script x =
    is_some (entry_named script.entries x) && not (is_some (declared_named script.entries x))

-- whether items of this name are set aside: in the wide profile those that repeat a definition of the script, unless
-- the name has the form of an element's
abbrev pub is_set_aside : Signature → List ℕ → Bool
is_set_aside script x = script.theories.wide && is_defined_in script x && not (is_element_name script x)

-- an item that repeats a definition comes to nothing, if it has that definition's rank: its body is not looked
-- at
abbrev pub repeated_in : Signature → ItemForm → Result (Option Entry) TermFlaw
repeated_in script form =
    result_and_then (parameters_named (sort_names_of script) [] form.parameters)
    (λ ps. result_and_then (sort_named (sort_names_of script) form.sort)
    (λ s. if has_rank_of (entry_named script.entries form.name) (map (λ p. p.1) ps) s
    then Ok None else Err IllSorted))

-- ---- items that tell of declared sorts

-- the sort of an element is that of its item, or the item's fault
abbrev pub told_sort : Sort → Sort → Result (Option Entry) TermFlaw
told_sort element sort = if is_same_sort element sort then Ok None else Err IllSorted

-- what `(declare-fun x () sort)` comes to, where x has the form of an element's name of this sort, if it has one: no
-- name of the script is an element's
abbrev pub element_told : Signature → List ℕ → Option Sort → Sexp → Result (Option Entry) TermFlaw
element_told script x None sort = Err Form
element_told script x (Some element) sort =
    if is_some (entry_named script.entries x) then Err NotFresh
    else result_and_then (sort_named (sort_names_of script) sort) (told_sort element)

-- what an item comes to by what stands behind its `declare-fun`
abbrev pub declared_item : Signature → Sexps → Result (Option Entry) TermFlaw
declared_item script (Cons (Atom Symbol x) (Cons (Items Nil) (Cons sort Nil))) =
    element_told script x (element_sort (sort_names_of script) x) sort
declared_item script _ = Err Form

-- what items come to that tell which elements declared sorts have; None of other items
abbrev pub told_in : Signature → Sexp → Option (Result (Option Entry) TermFlaw)
told_in script (Items (Cons (Reserved Forall) rest)) = Some (Ok None)
told_in script (Items (Cons (Reserved DeclareSort) rest)) = Some (Ok None)
told_in script (Items (Cons (Reserved DeclareFun) rest)) = Some (declared_item script rest)
told_in script _ = None

-- in the wide profile, these items are set aside
abbrev pub told_item : Signature → Sexp → Option (Result (Option Entry) TermFlaw)
told_item script tree = if script.theories.wide then told_in script tree else None

-- ---- all items

-- what an item of these parts comes to
abbrev pub item_by : Signature → List Entry → ItemForm → Result (Option Entry) TermFlaw
item_by script earlier form =
    if is_set_aside script form.name then repeated_in script form
    else result_and_then (form_in script earlier form) (λ e. Ok (Some e))

-- what an item of a model of the script's names defines behind the earlier items, if it is not set aside; or
-- its first fault
abbrev pub item_in : Signature → List Entry → Sexp → Result (Option Entry) TermFlaw
item_in script earlier tree =
    unwrap_or (told_item script tree) (result_and_then (item_form tree) (item_by script earlier))

-- what an item adds to the definitions of a model
abbrev pub list_of : Option Entry → List Entry
list_of None = []
list_of (Some e) = e ∷ []
