-- What is known of arrays, and what an operator is known to make of arguments of which some may be open. What is known,
-- and what stays open, is this project's own rule; where a result is known, it is the standard's.
use Rattle.std.specs.Prelude.{ℕ, ◌+◌, suc, List, [], ◌∷◌, ◌++◌, Bool, true, false, not, ◌&&◌, ◌||◌, Option, Some, None}
use Rattle.std.specs.Prelude.{nat_lt}
use Rattle.std.specs.Prelude.{map, option_and_then, option_map, if◌then◌else◌}
use Rattle.std.specs.List.{list_all, list_any, sum}
use Rattle.smt_theory.specs.declared.op.ArraysOp.{ArraysOp}
use Rattle.smt_theory.specs.declared.op.ArraysOp.TheVariants.{Select, Store, Const}
use Rattle.smt_theory.specs.declared.op.CoreOp.TheVariants.{Equal, Distinct, Ite}
use Rattle.smt_theory.specs.declared.op.Op.{Op}
use Rattle.smt_theory.specs.declared.op.Op.TheVariants.{Core, Arrays}
use Rattle.smt_values.specs.Element as plain
use Rattle.smt_values.specs.KnownOperations as plain_known
use Rattle.smt_values.specs.Lists.{all_known}
use Rattle.smt_arrays.specs.Element.{Element, Plain, Filled, Written, is_array, known_plain}
use Rattle.smt_arrays.specs.Operations.{truth}
use Rattle.smt_arrays.specs.Reading.{are_all, both_indexes, default_of, indexes, is_same_plain, read}

abbrev pub is_known_to_be : Bool → Option Bool → Bool
is_known_to_be true (Some true) = true
is_known_to_be false (Some false) = true
is_known_to_be _ _ = false

-- whether all of these are so: known where one is known not to be, or where all are known to be
abbrev pub are_all_so : List (Option Bool) → Option Bool
are_all_so found =
    if list_any (is_known_to_be false) found then Some false
    else if list_all (is_known_to_be true) found then Some true else None

-- whether the first of these indexes is an element of a declared sort, as then all are
abbrev pub are_named : List Element → Bool
are_named (Plain (plain.Abstract name) ∷ js) = true
are_named _ = false

-- A difference of the defaults decides nothing where indexes are elements of a declared sort: there may be no others.
abbrev pub unless_different : Option Bool → Option Bool
unless_different (Some false) = None
unless_different found = found

abbrev pub known_default : (Element → Element → Option Bool) → Element → Element → Option Bool
known_default same a b =
    if are_all (both_indexes a b) then Some true
    else if are_named (both_indexes a b) then unless_different (same (default_of a) (default_of b))
    else same (default_of a) (default_of b)

-- two arrays are compared at each index that is written in one, and at all others, unless there are none
abbrev pub known_alike : (Element → Element → Option Bool) → Element → Element → Option Bool
known_alike same a b =
    are_all_so (known_default same a b ∷ map (λ i. same (read a i) (read b i)) (both_indexes a b))

abbrev pub known_same_by : (Element → Element → Option Bool) → Element → Element → Option Bool
known_same_by same a b =
    if is_array a && is_array b then known_alike same a b else Some (is_same_plain a b)

-- whether two elements are known to be the same
abbrev pub known_same : Element → Element → Option Bool
known_same a b = known_same_by (known_same_by (λ c d. Some (is_same_plain c d))) a b

-- ---- how much is compared

-- an array's size: one, one for each write, and the sizes of the arrays that it holds
abbrev pub size : Element → ℕ
size (Written a i e) = suc (size a + size e)
size (Filled e) = suc (size e)
size (Plain e) = 0

-- whether arrays are compared place by place: arrays of arrays, and those by elements of a declared sort
abbrev pub is_slow : Element → Bool
is_slow a = is_array a && (is_array (default_of a) || are_named (indexes a))

-- too much is written in arrays that are compared place by place
abbrev pub is_too_much : List Element → Bool
is_too_much es = list_any is_slow es && nat_lt 256 (sum (map size es))

-- ---- operators

abbrev pub neighbours_same : List Element → List (Option Bool)
neighbours_same [] = []
neighbours_same (a ∷ []) = []
neighbours_same (a ∷ b ∷ rest) = known_same a b ∷ neighbours_same (b ∷ rest)

abbrev pub pairs_different : List Element → List (Option Bool)
pairs_different [] = []
pairs_different (a ∷ rest) = map (λ b. option_map not (known_same a b)) rest ++ pairs_different rest

abbrev pub known_equal : List Element → Option Element
known_equal es = if is_too_much es then None else option_map truth (are_all_so (neighbours_same es))

abbrev pub known_distinct : List Element → Option Element
known_distinct es = if is_too_much es then None else option_map truth (are_all_so (pairs_different es))

abbrev pub known_arrays : ArraysOp → List Element → Option Element
known_arrays Select (a ∷ i ∷ []) = if is_array a && not (is_array i) then Some (read a i) else None
known_arrays Store (a ∷ i ∷ e ∷ []) = if is_array a && not (is_array i) then Some (Written a i e) else None
known_arrays (Const sort) (e ∷ []) = Some (Filled e)
known_arrays _ _ = None

-- the branch that is chosen, whatever the other is
abbrev pub known_choice : List (Option Element) → Option Element
known_choice (condition ∷ a ∷ b ∷ []) =
    option_and_then (λ c. if c then a else b) (plain_known.known_truth (known_plain condition))
known_choice _ = None

-- what is known of the result of an operator for arguments of which this much is known
abbrev pub known_step : Op → List (Option Element) → Option Element
known_step (Arrays op) args = option_and_then (known_arrays op) (all_known args)
known_step (Core Equal) args = option_and_then known_equal (all_known args)
known_step (Core Distinct) args = option_and_then known_distinct (all_known args)
known_step (Core Ite) args = known_choice args
known_step op args = option_map Plain (plain_known.known_step op (map known_plain args))
