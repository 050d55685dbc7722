-- What stands behind an `as`: elements of declared sorts, as the bodies of a printed model's items name them (SMT-LIB
-- 2.6, section 4.2.6), which no term of a script names; and the sorts of constant arrays.
use Rattle.std.specs.Prelude.{ℕ, List, [], Bool, false, not, ◌||◌, Option, Some, None, is_some, option_and_then}
use Rattle.std.specs.Prelude.{Result, Ok, Err, if◌then◌else◌}
use Rattle.smt_trees.specs.Sexp.{Sexp, Sexps, Atom, Nil, Cons, Symbol}
use Rattle.smt_theory.specs.Words.{look_up, result_and_then}
use Rattle.smt_theory.specs.Sort.{Sort, Free}
use Rattle.smt_theory.specs.declared.op.ArraysOp.TheVariants.{Const}
use Rattle.smt_theory.specs.declared.op.Op.{Op}
use Rattle.smt_theory.specs.declared.op.Op.TheVariants.{Arrays}
use Rattle.smt_theory.specs.declared.theories.Theories.{Theories}
use Rattle.smt_forms.specs.ElementNames.{begins_at, sort_of_element}
use Rattle.smt_forms.specs.Variables.{is_among}
use Rattle.smt_terms.specs.SortTrees.{SortNames, sort_named}
use Rattle.smt_terms.specs.declared.named_sort.NamedSort.{NamedSort}
use Rattle.smt_faults.specs.declared.term_flaw.TermFlaw.{TermFlaw}
use Rattle.smt_faults.specs.declared.term_flaw.TermFlaw.TheVariants.{IllSorted, NotFresh, Unsupported}

-- a sort, if a command declared it
abbrev pub if_free : Sort → Option Sort
if_free (Free command) = Some (Free command)
if_free _ = None

-- the sort that a command declares by this very name, if one does
abbrev pub if_declared : NamedSort → Option Sort
if_declared named = if named.is_declared then if_free named.sort else None

-- the declared sort for whose elements such a symbol is a name: it has the form of one, with the sort's very name
abbrev pub element_sort : SortNames → List ℕ → Option Sort
element_sort sorts x =
    option_and_then if_declared (option_and_then (look_up sorts.abbreviations) (sort_of_element x))

-- what the items of a model may name elements by: the names of the script's sorts, and the names that the script
-- has, of which none is an element's
pub record ElementNames : Type 0 where
  pub sorts : SortNames
  pub taken : List (List ℕ)

-- the declared sort of which a symbol is an element: no name of the script is one
abbrev pub element_in : ElementNames → List ℕ → Option Sort
element_in elements x = if is_among elements.taken x then None else element_sort elements.sorts x

-- the same; none where terms name no elements
abbrev pub element_among : Option ElementNames → List ℕ → Option Sort
element_among None x = None
element_among (Some elements) x = element_in elements x

-- whether terms may name an element by the symbol, alone or behind an `as`
abbrev pub names_element : Option ElementNames → List ℕ → Bool
names_element None x = false
names_element (Some elements) x = begins_at x || is_some (element_in elements x)

abbrev pub or_ill_sorted : Option Sort → Result Sort TermFlaw
or_ill_sorted None = Err IllSorted
or_ill_sorted (Some sort) = Ok sort

-- the sort of `(as symbol sort)`, by what stands behind the `as`, where these names are in force: none of them is an
-- element's, and none of the script's
abbrev pub qualified_in : {A : Type 0} → ElementNames → List (List ℕ × A) → Sexps → Result Sort TermFlaw
qualified_in elements names (Cons (Atom Symbol x) (Cons sort Nil)) =
    if not (begins_at x) then Err Unsupported
    else if is_among elements.taken x || is_some (look_up names x) then Err NotFresh
    else result_and_then (sort_named elements.sorts sort) (λ s. or_ill_sorted (if_free s))
qualified_in elements names _ = Err Unsupported

abbrev pub qualified_sort : {A : Type 0} → Option ElementNames → List (List ℕ × A) → Sexps
    → Result Sort TermFlaw
qualified_sort None names parts = Err Unsupported
qualified_sort (Some elements) names parts = qualified_in elements names parts

-- ---- constant arrays

abbrev pub abbreviations_of : Option ElementNames → List (List ℕ × NamedSort)
abbreviations_of None = []
abbreviations_of (Some elements) = elements.sorts.abbreviations

-- what names the sort of a constant array: the theories, and in a model the names of the script's sorts. In a script
-- no such name is read there, so that a term is the same whatever names of sorts come and go
abbrev pub constant_sorts : Theories → Option ElementNames → SortNames
constant_sorts theories elements = record { theories = theories; abbreviations = abbreviations_of elements }

-- the operator `(as const sort)`, or the first fault of its sort
abbrev pub constant_op : Theories → Option ElementNames → Sexp → Result Op TermFlaw
constant_op theories elements sort =
    result_and_then (sort_named (constant_sorts theories elements) sort) (λ s. Ok (Arrays (Const s)))
