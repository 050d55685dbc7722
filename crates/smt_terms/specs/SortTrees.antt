-- SMT-LIB 2.6, section 3.5: the sort that a tree names, which may be an abbreviation (section 4.2.3), or its
-- first fault. Which sorts are not supported, and which fault is told, is this project's choice.
use Rattle.std.specs.Prelude.{ℕ, List, [], ◌∷◌, Bool, true, false, not, ◌||◌, Option, Some, None, is_some}
use Rattle.std.specs.Prelude.{option_map, Result, Ok, Err, ok_or, bytes_eq, codes, if◌then◌else◌}
use Rattle.std.specs.Str.Parse.{digits_value}
use Rattle.smt_trees.specs.Sexp.{Sexp, Sexps, Atom, Reserved, Items, Nil, Cons, Numeral, Symbol}
use Rattle.smt_trees.specs.declared.reserved.Word.TheVariants.{Underscore}
use Rattle.smt_theory.specs.Sort.{Sort, Boolean, Int, Real, Bits, Array, array_of_sort}
use Rattle.smt_theory.specs.declared.theories.Theories.{Theories}
use Rattle.smt_theory.specs.Width.{width_of}
use Rattle.smt_theory.specs.Words.{look_up, result_and_then}
use Rattle.smt_forms.specs.Identifier.{all_indexes}
use Rattle.smt_terms.specs.declared.named_sort.NamedSort.{NamedSort}
use Rattle.smt_faults.specs.declared.term_flaw.TermFlaw.{TermFlaw}
use Rattle.smt_faults.specs.declared.term_flaw.TermFlaw.TheVariants.{Form, Unsupported, Unknown, Index}

abbrev pub integers : Theories → Result Sort TermFlaw
integers theories = if theories.ints then Ok Int else Err Unknown

-- `Real` and decimals are not supported in the profile Base
abbrev pub reals : Theories → Result Sort TermFlaw
reals theories = if theories.reals then Ok Real else Err (if theories.wide then Unknown else Unsupported)

-- the sort of numerals: without integers they are reals
abbrev pub numerals : Theories → Result Sort TermFlaw
numerals theories = if theories.ints then Ok Int else if theories.reals then Ok Real else Err Unknown

-- the sort of the theories that a symbol is
abbrev pub sort_of_word : Theories → List ℕ → Result Sort TermFlaw
sort_of_word theories name =
    if bytes_eq name (codes "Bool") then Ok Boolean else if bytes_eq name (codes "Int") then integers theories
    else if bytes_eq name (codes "Real") then reals theories
    else if bytes_eq name (codes "String") then Err Unsupported
    else Err Unknown

-- a sort, or else that for which a name stands, if it stands for one
abbrev pub or_named : Option NamedSort → Result Sort TermFlaw → Result Sort TermFlaw
or_named named (Ok sort) = Ok sort
or_named None (Err flaw) = Err flaw
or_named (Some named) (Err flaw) = Ok named.sort

-- the sort of a symbol: that of the theories, or else that for which it stands. No name of a sort of the theories
-- stands for another sort (`is_sort_taken`)
abbrev pub sort_of_symbol : Theories → List ℕ → Option NamedSort → Result Sort TermFlaw
sort_of_symbol theories name named = or_named named (sort_of_word theories name)

-- bit vectors of a width that there may be, or none where the number of bits is out of range
abbrev pub bit_vectors : Theories → Option ℕ → Result Sort TermFlaw
bit_vectors theories width = if theories.bits then ok_or (option_map Bits width) Index else Err Unknown

-- the sort `(_ BitVec index ..)` of these indexes
abbrev pub bit_vector_sort : Theories → Sexps → Result Sort TermFlaw
bit_vector_sort theories (Cons (Atom Numeral digits) Nil) =
    bit_vectors theories (width_of (digits_value 10 digits))
bit_vector_sort theories _ = Err Form

-- the sort `(_ symbol index ..)`, by what stands behind the `_`
abbrev pub indexed_sort : Theories → Sexps → Result Sort TermFlaw
indexed_sort theories (Cons (Atom Symbol name) indexes) =
    if not (is_some (all_indexes indexes)) then Err Form
    else if bytes_eq name (codes "BitVec") then bit_vector_sort theories indexes else Err Unknown
indexed_sort theories _ = Err Form

abbrev pub is_some_tree : Sexps → Bool
is_some_tree Nil = false
is_some_tree (Cons x xs) = true

-- ---- sorts of arrays

abbrev pub is_array : Sort → Bool
is_array sort = is_some (array_of_sort sort)

-- whether a sort is one of arrays whose elements are arrays
abbrev pub is_nested : Sort → Bool
is_nested (Array index element) = is_array element
is_nested _ = false

-- the sort of arrays with these indexes and elements: indexes are no arrays, and arrays are at most two deep
abbrev pub array_of : (index element : Sort) → Result Sort TermFlaw
array_of index element =
    if is_array index || is_nested element then Err Unsupported else Ok (Array index element)

-- the sort `(Array index element)`, by the sorts that its parts name
abbrev pub array_sort : Theories → (index element : Result Sort TermFlaw) → Result Sort TermFlaw
array_sort theories index element =
    if not theories.wide then Err Unsupported else if not theories.arrays then Err Unknown
    else result_and_then index (λ i. result_and_then element (array_of i))

-- the sort that a list of a symbol and two trees names, by the sorts that these name
abbrev pub sort_of_pair : Theories → List ℕ → (first second : Result Sort TermFlaw) → Result Sort TermFlaw
sort_of_pair theories name first second =
    if bytes_eq name (codes "Array") then array_sort theories first second else Err Unknown

-- the sort that a list of other parts names
abbrev pub sort_of_list : Theories → Sexps → Result Sort TermFlaw
sort_of_list theories (Cons (Reserved Underscore) parts) = indexed_sort theories parts
sort_of_list theories (Cons (Atom Symbol name) args) =
    if bytes_eq name (codes "Array") then Err (if theories.wide then Form else Unsupported)
    else if is_some_tree args then Err Unknown else Err Form
sort_of_list theories _ = Err Form

-- ---- all sorts

-- what names sorts: the theories, and the names of sorts in force with what they stand for
pub record SortNames : Type 0 where
  pub theories : Theories
  pub abbreviations : List (List ℕ × NamedSort)

-- the sort that a tree names, or its first fault
abbrev pub sort_named : SortNames → Sexp → Result Sort TermFlaw
sort_named names (Atom Symbol name) = sort_of_symbol names.theories name (look_up names.abbreviations name)
sort_named names (Items (Cons (Atom Symbol name) (Cons first (Cons second Nil)))) =
    sort_of_pair names.theories name (sort_named names first) (sort_named names second)
sort_named names (Items parts) = sort_of_list names.theories parts
sort_named names _ = Err Form

-- the sorts that trees name, in order, or the first fault
abbrev pub sorts_named : SortNames → Sexps → Result (List Sort) TermFlaw
sorts_named names Nil = Ok []
sorts_named names (Cons x xs) =
    result_and_then (sort_named names x) (λ s. result_and_then (sorts_named names xs) (λ ss. Ok (s ∷ ss)))
