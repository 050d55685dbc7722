-- What is to blame where a term, a declaration, a definition or an item of a model is refused (SMT-LIB 2.6, sections
-- 3.5, 3.6, 4.2.3 and 4.2.6): a fact on a name or a part, over the names in force. That it is the first such part, in
-- the order in which parts are checked, is not said here.
use Rattle.std.specs.Prelude.{◌≡◌, ◌⊎◌, ◌+◌, ◌-◌, ◌*◌, ◌==◌, ◌&&◌, ◌||◌, ℕ, List, [], Bool, true, false, not}
use Rattle.std.specs.Prelude.{Option, Some, None, Result, Ok, Err, is_some, length, option_map, option_and_then}
use Rattle.std.specs.Prelude.{slice_get, codes, if◌then◌else◌, IfOk, IfSome}
use Rattle.smt_faults.specs.declared.memory.Memory.{Memory}
use Rattle.std.specs.List.{position, zip}
use Rattle.smt_trees.specs.Sexp.{Sexp, Sexps, Atom, Reserved, Items, Nil, Cons, Binary, Decimal, Hexadecimal}
use Rattle.smt_trees.specs.Sexp.{Numeral, Symbol}
use Rattle.smt_trees.specs.View.{sexp_of}
use Rattle.smt_trees.specs.declared.reserved.Word.TheVariants.{Underscore}
use Rattle.smt_theory.specs.Misfits.{argument, misfit_of}
use Rattle.smt_theory.specs.Operators.{op_by}
use Rattle.smt_theory.specs.Sort.{is_same_sort}
use Rattle.smt_theory.specs.Width.{width_of}
use Rattle.smt_theory.specs.Words.{look_up}
use Rattle.smt_theory.specs.declared.misfits.RankFlaw.{RankFlaw}
use Rattle.smt_theory.specs.declared.misfits.RankFlaw.TheVariants as flaws
use Rattle.smt_theory.specs.declared.misfits.Wanted.{Wanted}
use Rattle.smt_theory.specs.declared.misfits.Wanted.TheVariants.{Only}
use Rattle.smt_theory.specs.declared.op.Op.{Op}
use Rattle.smt_theory.specs.declared.op.OpFault.{OpFault}
use Rattle.smt_theory.specs.declared.op.OpFault.TheVariants as faults
use Rattle.smt_theory.specs.Sort.{Sort}
use Rattle.smt_theory.specs.declared.theories.Theories.{Theories}
use Rattle.smt_forms.specs.Identifier.{Identifier, Plain, Indexed, Qualified, applied, indexed}
use Rattle.smt_forms.specs.Identifier.{operator_of}
use Rattle.smt_faults.specs.declared.term_flaw.TermFlaw.{TermFlaw}
use Rattle.smt_faults.specs.declared.term_flaw.TermFlaw.TheVariants as term_flaws
use Rattle.smt_forms.specs.ItemForm.{ItemForm, item_form}
use Rattle.smt_theory.specs.Sort.{Boolean}
use Rattle.smt_terms.specs.Checking.{sort_in}
use Rattle.smt_terms.specs.Elements.{constant_op, element_sort}
use Rattle.smt_terms.specs.Freshness.{is_defined_before, is_sort_taken, is_taken}
use Rattle.smt_terms.specs.Items.{is_set_aside, told_item}
use Rattle.smt_terms.specs.Signature.{Names, Rank, Signature, names_of, sort_names_of}
use Rattle.smt_terms.specs.SortTrees.{SortNames, bit_vectors, numerals, reals, sort_named}
use Rattle.smt_terms.specs.declared.blame.Blame.{Blame}
use Rattle.smt_terms.specs.declared.blame.Blame.TheVariants.{Unknown, Lacks, Twice, Label, InUse, Variable, Misfit}
use Rattle.smt_terms.specs.declared.blame.Blame.TheVariants.{Arity, Sorts, Whole, Parameter, Outcome, Parameters}
use Rattle.smt_terms.specs.declared.blame.Theory.{Theory}
use Rattle.smt_terms.specs.declared.blame.Theory.TheVariants.{Integers, Reals, BitVectors, Arrays}

-- ---- unknown names

-- the name of an identifier
abbrev pub name_of : Identifier → List ℕ
name_of (Plain x) = x
name_of (Indexed x indexes) = x
name_of (Qualified sort) = codes "const"

abbrev pub is_unknown_operator : Result Op OpFault → Bool
is_unknown_operator (Err faults.Unknown) = true
is_unknown_operator _ = false

-- a symbol alone may be a name in force; `const` with its sort is always known
abbrev pub is_named : Names → Identifier → Bool
is_named names (Plain x) = is_some (look_up names.ranks x)
is_named names (Indexed x indexes) = false
is_named names (Qualified sort) = true

-- whether an identifier is no name in force, and no operator of these theories
abbrev pub is_unknown : Names → Theories → Identifier → Bool
is_unknown names theories f = not (is_named names f) && is_unknown_operator (operator_of theories f)

abbrev pub is_unknown_sort : Result Sort TermFlaw → Bool
is_unknown_sort (Err term_flaws.Unknown) = true
is_unknown_sort _ = false

-- whether a tree names no sort of these theories
abbrev pub names_no_sort : SortNames → Theories → Sexp → Bool
names_no_sort sorts theories tree = is_unknown_sort (sort_named (record sorts { theories = theories }) tree)

-- whether a tree is a literal of none of these theories
abbrev pub is_unknown_literal : Theories → Sexp → Bool
is_unknown_literal theories (Atom Numeral digits) = is_unknown_sort (numerals theories)
is_unknown_literal theories (Atom Decimal digits) = is_unknown_sort (reals theories)
is_unknown_literal theories (Atom Hexadecimal digits) =
    is_unknown_sort (bit_vectors theories (width_of (4 * length digits)))
is_unknown_literal theories (Atom Binary digits) =
    is_unknown_sort (bit_vectors theories (width_of (length digits)))
is_unknown_literal theories _ = false

-- the name by which a tree names a sort
abbrev pub sort_word : Sexp → Option (List ℕ)
sort_word (Atom Symbol x) = Some x
sort_word (Items (Cons (Atom Symbol x) args)) = Some x
sort_word (Items (Cons (Reserved Underscore) (Cons (Atom Symbol x) indexes))) = Some x
sort_word _ = None

-- these theories with one more: the profile Base never has reals or arrays
abbrev pub with_theory : Theory → Theories → Theories
with_theory Integers theories = record theories { ints = true }
with_theory Reals theories = record theories { reals = theories.reals || theories.wide }
with_theory BitVectors theories = record theories { bits = true }
with_theory Arrays theories = record theories { arrays = theories.arrays || theories.wide }

-- ---- parts

-- a part is an identifier alone, or applies one to arguments
abbrev pub IsAlone : Sexp → Identifier → Type 0
IsAlone (Atom Symbol x) f = f ≡ Plain x
IsAlone (Items (Cons (Reserved Underscore) parts)) f = indexed parts ≡ Ok f
IsAlone _ f = ⊥

abbrev pub IsCall : Sexp → Identifier → Sexps → Type 0
IsCall part f args = (head : Sexp) × (part ≡ Items (Cons head args)) × (applied head args ≡ Ok f)

-- a part is an identifier alone, or the head of a list that applies it
abbrev pub IsIdentifier : Sexp → Identifier → Type 0
IsIdentifier part f = IsAlone part f ⊎ ((args : Sexps) × (applied part args ≡ Ok f))

-- the tree at a place, from 0
abbrev pub tree_at : Sexps → ℕ → Option Sexp
tree_at Nil place = None
tree_at (Cons tree trees) place = if place == 0 then Some tree else tree_at trees (place - 1)

-- ---- why arguments of these sorts are refused

-- by the sorts of parameters: the number of arguments, or the first one of another sort
abbrev pub other_place : List Sort → List Sort → Option ℕ
other_place parameters sorts = position (λ p. not (is_same_sort p.0 p.1)) (zip parameters sorts)

abbrev pub other_argument : List Sort → ℕ → Option RankFlaw
other_argument parameters place = option_map (λ sort. argument (Only sort) place) (slice_get parameters place)

abbrev pub parameter_flaw : List Sort → List Sort → Option RankFlaw
parameter_flaw parameters sorts =
    if length sorts == length parameters
    then option_and_then (other_argument parameters) (other_place parameters sorts)
    else Some (flaws.Count (length parameters))

abbrev pub operator_flaw : Result Op OpFault → List Sort → Option RankFlaw
operator_flaw (Ok op) sorts = misfit_of op sorts
operator_flaw (Err fault) sorts = None

abbrev pub plain_flaw : Names → List ℕ → Option Rank → List Sort → Option RankFlaw
plain_flaw names x None sorts = operator_flaw (op_by names.theories x []) sorts
plain_flaw names x (Some rank) sorts = parameter_flaw rank.parameters sorts

abbrev pub constant_flaw : Result Op TermFlaw → List Sort → Option RankFlaw
constant_flaw (Ok op) sorts = misfit_of op sorts
constant_flaw (Err fault) sorts = None

-- of an identifier that is no variable
abbrev pub call_flaw : Names → Identifier → List Sort → Option RankFlaw
call_flaw names (Plain x) sorts = plain_flaw names x (look_up names.ranks x) sorts
call_flaw names (Indexed x indexes) sorts = operator_flaw (op_by names.theories x indexes) sorts
call_flaw names (Qualified sort) sorts = constant_flaw (constant_op names.theories names.elements sort) sorts

-- ---- each kind of blame

-- nothing has the name: no symbol or identifier with indexes, or no sort
abbrev pub IsUnknown : Names → SortNames → List ℕ → Type 0
IsUnknown names sorts x = ((f : Identifier) × (name_of f ≡ x) × (is_unknown names names.theories f ≡ true))
    ⊎ ((tree : Sexp) × (sort_word tree ≡ Some x) × (names_no_sort sorts sorts.theories tree ≡ true))

-- a part is unknown, and would not be so with one more theory
abbrev pub IsLacking : Names → SortNames → Sexp → Theory → Type 0
IsLacking names sorts part theory =
    ((f : Identifier) × IsIdentifier part f × (is_unknown names names.theories f ≡ true)
    × (is_unknown names (with_theory theory names.theories) f ≡ false))
    ⊎ ((is_unknown_literal names.theories part ≡ true)
    × (is_unknown_literal (with_theory theory names.theories) part ≡ false))
    ⊎ ((names_no_sort sorts sorts.theories part ≡ true)
    × (names_no_sort sorts (with_theory theory sorts.theories) part ≡ false))

-- a new name is taken: by a name in force, an operator or an element, or among the names of sorts
abbrev pub IsInUse : Names → SortNames → List ℕ → Type 0
IsInUse names sorts x =
    (is_taken names x ≡ true) ⊎ (is_sort_taken sorts x ≡ true) ⊎ (is_some (element_sort sorts x) ≡ true)

-- the argument of a call at a place from 1 is the first that does not fit
abbrev pub IsMisfit : Names → (part : Sexp) (place : ℕ) (argument : Sexp) (found : Sort) → Wanted → Type 0
IsMisfit names part place argument found wanted =
    (f : Identifier) × (args : Sexps) × (sorts : List Sort) × (i : ℕ) × IsCall part f args × (place ≡ i + 1)
    × (tree_at args i ≡ Some argument) × (slice_get sorts i ≡ Some found)
    × (call_flaw names f sorts ≡ Some (flaws.Argument i wanted))

-- an identifier, alone or applied, needs another number of arguments
abbrev pub IsOtherArity : Names → (part : Sexp) (given wanted : ℕ) → Type 0
IsOtherArity names part given wanted =
    (f : Identifier) × (sorts : List Sort) × (IsAlone part f ⊎ ((args : Sexps) × IsCall part f args))
    × (given ≡ length sorts) × (call_flaw names f sorts ≡ Some (flaws.Count wanted))

-- an item has another rank than its name
abbrev pub IsOtherRank : Names → (List Sort → Rank → Type 0) → Type 0
IsOtherRank names flaw =
    (x : List ℕ) × (rank : Rank) × (sorts : List Sort) × (look_up names.ranks x ≡ Some rank) × flaw sorts rank

-- what is to blame, over these names and names of sorts. Whether a name is bound twice, labels two terms of an
-- assertion or is a variable's, and which sort the whole term has, is said of the term alone
abbrev pub IsBlamed : Names → SortNames → Blame → Type 0
IsBlamed names sorts (Unknown name) = IsUnknown names sorts name.now
IsBlamed names sorts (Lacks part theory) = IsLacking names sorts (sexp_of part) theory
IsBlamed names sorts (Twice name) = Unit {0}
IsBlamed names sorts (Label name) = Unit {0}
IsBlamed names sorts (InUse name) = IsInUse names sorts name.now
IsBlamed names sorts (Variable part) = (x : List ℕ) × (args : Sexps) × IsCall (sexp_of part) (Plain x) args
IsBlamed names sorts (Misfit part place argument found wanted) =
    IsMisfit names (sexp_of part) place (sexp_of argument) found wanted
IsBlamed names sorts (Arity part given wanted) = IsOtherArity names (sexp_of part) given wanted
IsBlamed names sorts (Sorts part found) = (f : Identifier) × (args : Sexps) × IsCall (sexp_of part) f args
    × (call_flaw names f found.items ≡ Some flaws.Widths)
IsBlamed names sorts (Whole found wanted) = is_same_sort found wanted ≡ false
IsBlamed names sorts (Parameter place found wanted) =
    IsOtherRank names (λ sorts rank. (i : ℕ) × (place ≡ i + 1) × (slice_get sorts i ≡ Some found)
    × (parameter_flaw rank.parameters sorts ≡ Some (flaws.Argument i (Only wanted))))
IsBlamed names sorts (Outcome found wanted) =
    IsOtherRank names (λ sorts rank. (wanted ≡ rank.sort) × (is_same_sort found wanted ≡ false))
IsBlamed names sorts (Parameters given wanted) =
    IsOtherRank names (λ sorts rank. (given ≡ length sorts)
    × (parameter_flaw rank.parameters sorts ≡ Some (flaws.Count wanted)))

-- the same over a signature; and of what is told, if anything is
abbrev pub IsToBlame : Signature → Blame → Type 0
IsToBlame s blame = IsBlamed (names_of s) (sort_names_of s) blame

abbrev pub IsToldOver : Signature → Option Blame → Type 0
IsToldOver s found = IfSome found (IsToBlame s)

-- of an item, over the names of the script or those of the items before it
abbrev pub IsToldOf : (script items : Signature) → Option Blame → Type 0
IsToldOf script items found = IfSome found (λ blame. IsToBlame script blame ⊎ IsToBlame items blame)

-- ---- what is told for certain

-- of a term of this sort that has to be of another
abbrev pub whole_blame : (found wanted : Sort) → Option Blame
whole_blame found wanted = if is_same_sort found wanted then None else Some (Whole found wanted)

-- of a term that has a sort, that sort alone is told
abbrev pub IsToldWhole : (wanted : Sort) → Result Sort TermFlaw → Result (Option Blame) Memory → Type 0
IsToldWhole wanted sorted result =
    (sort : Sort) → sorted ≡ Ok sort → IfOk result (λ found. found ≡ whole_blame sort wanted)

-- the name is told as one that is there twice
abbrev pub IsTwice : List ℕ → Option Blame → Type 0
IsTwice x (Some (Twice name)) = name.now ≡ x
IsTwice x _ = ⊥

-- an item is told so where an earlier one has its name, and it is not set aside
abbrev pub IsToldTwice : (script items : Signature) → Sexp → Result (Option Blame) Memory → Type 0
IsToldTwice script items tree result =
    (form : ItemForm) → told_item script tree ≡ None → item_form tree ≡ Ok form
    → is_set_aside script form.name ≡ false → is_defined_before items.entries form.name ≡ true
    → IfOk result (IsTwice form.name)

-- of terms that are assumed, the first one is told as a whole where it has another sort than Bool
abbrev pub IsFirstTold : Names → Sexps → Result (Option Blame) Memory → Type 0
IsFirstTold names terms result =
    (t : Sexp) (ts : Sexps) (sort : Sort) → terms ≡ Cons t ts → sort_in names [] t ≡ Ok sort
    → is_same_sort sort Boolean ≡ false → IfOk result (λ found. found ≡ Some (Whole sort Boolean))
