-- What an operator is known to make of arguments of which some may be open. What is known, and what stays
-- open, is this project's own rule; where a result is known, it is the standard's.
use Rattle.std.specs.Prelude.{ℕ, ◌^◌, ℤ, pos, negsuc, ◌+ℤ◌, ◌-ℤ◌, ◌*ℤ◌, neg_ℤ, unsigned_abs, List, [], ◌∷◌}
use Rattle.std.specs.Prelude.{Bool, true, false, not, Option, Some, None, option_map, option_and_then, map}
use Rattle.std.specs.Prelude.{fold, nat_lt, if◌then◌else◌}
use Rattle.std.specs.Bool.{beq}
use Rattle.std.specs.Int.{int_div_euclid, int_rem_euclid}
use Rattle.std.specs.List.{list_all, list_any}
use Rattle.std.specs.Ordering.{int_eq}
use Rattle.smt_bits.specs.BitVector.{BitVector}
use Rattle.smt_theory.specs.declared.op.Arithmetic.{Arithmetic}
use Rattle.smt_theory.specs.declared.op.Arithmetic.TheVariants.{Minus, Plus, Times, Div}
use Rattle.smt_theory.specs.declared.op.CoreOp.{CoreOp}
use Rattle.smt_theory.specs.declared.op.CoreOp.TheVariants.{True, False, Not, Implies, And, Or, Xor, Equal}
use Rattle.smt_theory.specs.declared.op.CoreOp.TheVariants.{Distinct, Ite}
use Rattle.smt_theory.specs.declared.op.IntsOp.{IntsOp}
use Rattle.smt_theory.specs.declared.op.IntsOp.TheVariants.{Arithmetic as Left, Comparison as Chain, Mod, Abs}
use Rattle.smt_theory.specs.declared.op.IntsOp.TheVariants.{Divisible}
use Rattle.smt_theory.specs.declared.op.Op.{Op}
use Rattle.smt_theory.specs.declared.op.Op.TheVariants.{Core, Ints, Reals, Bits, Arrays}
use Rattle.smt_values.specs.Element.{Element, Truth, Integer, Vector}
use Rattle.smt_theory.specs.declared.op.BitsOp.{BitsOp}
use Rattle.smt_values.specs.BitOperations.{width_from_int}
use Rattle.smt_values.specs.KnownBitOperations.{known_bits, known_bits_of_int}
use Rattle.smt_values.specs.KnownNumbers.{is_known_fraction, known_mixed, known_numbers, known_reals}
use Rattle.smt_values.specs.Lists.{all_known, are_chained, are_distinct, steps_from}
use Rattle.smt_values.specs.Operations.{is_same, exclusive_or, compares, divides}

abbrev pub known_truth : Option Element → Option Bool
known_truth (Some (Truth b)) = Some b
known_truth _ = None

abbrev pub known_integer : Option Element → Option ℤ
known_integer (Some (Integer z)) = Some z
known_integer _ = None

abbrev pub known_vector : Option Element → Option BitVector
known_vector (Some (Vector v)) = Some v
known_vector _ = None

-- whether it is known to be this truth value
abbrev pub is_known : Bool → Option Element → Bool
is_known b (Some (Truth c)) = beq c b
is_known b _ = false

-- ---- theory Core

-- one argument that is known to be decisive decides; the other way they all have to be known
abbrev pub decided : Bool → List (Option Element) → Option Element
decided decisive args =
    if list_any (is_known decisive) args then Some (Truth decisive)
    else if list_all (is_known (not decisive)) args then Some (Truth (not decisive))
    else None

-- `(=> a b c)` as `(or (not a) (not b) c)`
abbrev pub as_disjunction : List (Option Element) → List (Option Element)
as_disjunction [] = []
as_disjunction (a ∷ []) = a ∷ []
as_disjunction (a ∷ b ∷ rest) = option_map (λ c. Truth (not c)) (known_truth a) ∷ as_disjunction (b ∷ rest)

abbrev pub known_negation : List (Option Element) → Option Element
known_negation (a ∷ []) = option_map (λ b. Truth (not b)) (known_truth a)
known_negation _ = None

-- the branch that is chosen, whatever the other is
abbrev pub known_choice : List (Option Element) → Option Element
known_choice (condition ∷ a ∷ b ∷ []) = option_and_then (λ c. if c then a else b) (known_truth condition)
known_choice _ = None

abbrev pub known_core : CoreOp → List (Option Element) → Option Element
known_core True args = Some (Truth true)
known_core False args = Some (Truth false)
known_core Not args = known_negation args
known_core Implies args = decided true (as_disjunction args)
known_core And args = decided false args
known_core Or args = decided true args
known_core Xor args = option_map (λ bs. Truth (fold exclusive_or false bs)) (all_known (map known_truth args))
known_core Equal args = option_map (λ es. Truth (are_chained is_same es)) (all_known args)
known_core Distinct args = option_map (λ es. Truth (are_distinct is_same es)) (all_known args)
known_core Ite args = known_choice args

-- ---- theory Ints

-- integers from -2^127 to 2^127 - 1 are known; `negsuc n` is -(n + 1)
abbrev pub is_within : ℤ → Bool
is_within (pos n) = nat_lt n (2 ^ 127)
is_within (negsuc n) = nat_lt n (2 ^ 127)

-- whether it is no integer outside, as the elements of values are
abbrev pub is_held : Option Element → Bool
is_held (Some (Integer z)) = is_within z
is_held _ = true

abbrev pub within : ℤ → Option ℤ
within z = if is_within z then Some z else None

-- open at divisor 0
abbrev pub known_quotient : ℤ → ℤ → Option ℤ
known_quotient a n = if int_eq n (pos 0) then None else within (int_div_euclid a n)

abbrev pub known_remainder : ℤ → ℤ → Option ℤ
known_remainder a n = if int_eq n (pos 0) then None else Some (int_rem_euclid a n)

abbrev pub known_arithmetic : Arithmetic → ℤ → ℤ → Option ℤ
known_arithmetic Minus a b = within (a -ℤ b)
known_arithmetic Plus a b = within (a +ℤ b)
known_arithmetic Times a b = within (a *ℤ b)
known_arithmetic Div a b = known_quotient a b

-- what is applied from the left, each partial result known; of one argument `-` is the negation
abbrev pub known_from_left : Arithmetic → List ℤ → Option ℤ
known_from_left op [] = None
known_from_left Minus (a ∷ []) = within (neg_ℤ a)
known_from_left op (a ∷ rest) = steps_from (known_arithmetic op) a rest

abbrev pub known_mod : List ℤ → Option ℤ
known_mod (a ∷ n ∷ []) = known_remainder a n
known_mod _ = None

abbrev pub known_abs : List ℤ → Option ℤ
known_abs (a ∷ []) = within (pos (unsigned_abs a))
known_abs _ = None

-- no number is divisible by 0
abbrev pub known_divisible : ℕ → List ℤ → Option Bool
known_divisible n (a ∷ []) = if nat_lt 0 n then Some (divides n a) else None
known_divisible n _ = None

-- of arguments that are all known
abbrev pub known_ints : IntsOp → List ℤ → Option Element
known_ints (Left op) args = option_map Integer (known_from_left op args)
known_ints (Chain op) args = Some (Truth (are_chained (compares op) args))
known_ints Mod args = option_map Integer (known_mod args)
known_ints Abs args = option_map Integer (known_abs args)
known_ints (Divisible n) args = option_map Truth (known_divisible n args)

-- the integers that the arguments are known to be, where each is
abbrev pub known_integers : List (Option Element) → Option (List ℤ)
known_integers args = all_known (map known_integer args)

-- ---- theory FixedSizeBitVectors

-- the bit vectors that the arguments are known to be, where each is
abbrev pub known_vectors : List (Option Element) → Option (List BitVector)
known_vectors args = all_known (map known_vector args)

-- of an integer so many bits, or what is made of bit vectors
abbrev pub known_on_bits : Option ℕ → BitsOp → List (Option Element) → Option Element
known_on_bits (Some n) op args = option_and_then (known_bits_of_int n) (known_integers args)
known_on_bits None op args = option_and_then (known_bits op) (known_vectors args)

-- ---- all

-- what is known of the result of an operator for arguments of which this much is known
abbrev pub known_step : Op → List (Option Element) → Option Element
known_step (Core op) args = known_core op args
known_step (Ints op) args =
    if list_any is_known_fraction args then option_and_then (known_mixed op) (known_numbers args)
    else option_and_then (known_ints op) (known_integers args)
known_step (Reals op) args = option_and_then (known_reals op) (known_numbers args)
known_step (Bits op) args = known_on_bits (width_from_int op) op args
known_step (Arrays op) args = None
