-- SMT-LIB 2.6, theories Core, Reals_Ints and FixedSizeBitVectors: the meaning of the operators on elements.
-- Numbers and widths have no bounds here. What an operator gives for arguments that it has no rank for is of
-- no interest.
use Rattle.std.specs.Prelude.{ℕ, ◌%◌, ℤ, pos, ◌+ℤ◌, ◌-ℤ◌, ◌*ℤ◌, neg_ℤ, unsigned_abs, int_le, int_lt, List, []}
use Rattle.std.specs.Prelude.{◌∷◌, Bool, true, false, not, ◌&&◌, ◌||◌, ◌==◌, Option, Some, None, map, fold, bytes_eq}
use Rattle.std.specs.Prelude.{if◌then◌else◌}
use Rattle.std.specs.Bool.{beq}
use Rattle.std.specs.Int.{int_div_euclid, int_rem_euclid}
use Rattle.std.specs.List.{list_all, list_any}
use Rattle.std.specs.Ordering.{int_eq}
use Rattle.smt_bits.specs.BitVector.{BitVector, vector}
use Rattle.smt_theory.specs.declared.op.Arithmetic.{Arithmetic}
use Rattle.smt_theory.specs.declared.op.Arithmetic.TheVariants.{Minus, Plus, Times, Div}
use Rattle.smt_theory.specs.declared.op.Comparison.{Comparison}
use Rattle.smt_theory.specs.declared.op.Comparison.TheVariants.{AtMost, Less, AtLeast, Greater}
use Rattle.smt_theory.specs.declared.op.CoreOp.{CoreOp}
use Rattle.smt_theory.specs.declared.op.CoreOp.TheVariants.{True, False, Not, Implies, And, Or, Xor, Equal}
use Rattle.smt_theory.specs.declared.op.CoreOp.TheVariants.{Distinct, Ite}
use Rattle.smt_theory.specs.declared.op.IntsOp.{IntsOp}
use Rattle.smt_theory.specs.declared.op.IntsOp.TheVariants.{Arithmetic as Left, Comparison as Chain, Mod, Abs}
use Rattle.smt_theory.specs.declared.op.IntsOp.TheVariants.{Divisible}
use Rattle.smt_theory.specs.declared.op.Op.{Op}
use Rattle.smt_theory.specs.declared.op.Op.TheVariants.{Core, Ints, Reals, Bits, Arrays}
use Rattle.smt_theory.specs.declared.op.BitsOp.{BitsOp}
use Rattle.smt_values.specs.BitOperations.{bits_of_int, operate_bits, width_from_int}
use Rattle.smt_values.specs.Element.{Element, Truth, Integer, Fraction, Vector, Abstract}
use Rattle.smt_values.specs.Lists.{are_chained, are_distinct}
use Rattle.smt_values.specs.Numbers.{Quotient, is_fraction, number_of, operate_numbers, operate_reals}

-- the truth value, the integer or the bit vector that an element is; of another element this is of no
-- interest
abbrev pub truth_of : Element → Bool
truth_of (Truth b) = b
truth_of _ = false

abbrev pub integer_of : Element → ℤ
integer_of (Integer z) = z
integer_of _ = pos 0

abbrev pub vector_of : Element → BitVector
vector_of (Vector v) = v
vector_of _ = vector 0 0

-- whether two elements are the same
abbrev pub is_same : Element → Element → Bool
is_same (Truth a) (Truth b) = beq a b
is_same (Integer a) (Integer b) = int_eq a b
is_same (Fraction n d) (Fraction m e) = int_eq n m && d == e
is_same (Vector s) (Vector t) = s.width == t.width && s.number == t.number
is_same (Abstract x) (Abstract y) = bytes_eq x y
is_same _ _ = false

-- ---- theory Core

-- the last, or one that is before it and false: from the right, a => (b => c)
abbrev pub is_implied : List Bool → Bool
is_implied [] = false
is_implied (a ∷ []) = a
is_implied (a ∷ b ∷ rest) = not a || is_implied (b ∷ rest)

abbrev pub chosen : List Element → Element
chosen (condition ∷ a ∷ b ∷ []) = if truth_of condition then a else b
chosen _ = Truth false

abbrev pub negated : List Element → Bool
negated (a ∷ []) = not (truth_of a)
negated _ = false

abbrev pub exclusive_or : Bool → Bool → Bool
exclusive_or a b = if a then not b else b

abbrev pub operate_core : CoreOp → List Element → Element
operate_core True args = Truth true
operate_core False args = Truth false
operate_core Not args = Truth (negated args)
operate_core Implies args = Truth (is_implied (map truth_of args))
operate_core And args = Truth (list_all truth_of args)
operate_core Or args = Truth (list_any truth_of args)
operate_core Xor args = Truth (fold exclusive_or false (map truth_of args))
operate_core Equal args = Truth (are_chained is_same args)
operate_core Distinct args = Truth (are_distinct is_same args)
operate_core Ite args = chosen args

-- ---- theory Ints

-- What division by zero gives: the theories fix no value. Finite tables, from a dividend to the result; outside of
-- them it is 0. The last is of `/`.
pub record DivisionByZero : Type 0 where
  pub quotients : List (ℤ × ℤ)
  pub remainders : List (ℤ × ℤ)
  pub ratios : List (Quotient × Quotient)

-- where everything by zero is 0
abbrev pub zero_by_zero : DivisionByZero
zero_by_zero = record { quotients = []; remainders = []; ratios = [] }

abbrev pub at_zero : List (ℤ × ℤ) → ℤ → ℤ
at_zero [] a = pos 0
at_zero (row ∷ table) a = if int_eq a row.0 then row.1 else at_zero table a

-- `div` and `mod`: for a divisor n that is not 0 the q and the r with a = n * q + r and 0 <= r < |n|
abbrev pub quotient : DivisionByZero → ℤ → ℤ → ℤ
quotient z a n = if int_eq n (pos 0) then at_zero z.quotients a else int_div_euclid a n

abbrev pub remainder : DivisionByZero → ℤ → ℤ → ℤ
remainder z a n = if int_eq n (pos 0) then at_zero z.remainders a else int_rem_euclid a n

abbrev pub arithmetic : DivisionByZero → Arithmetic → ℤ → ℤ → ℤ
arithmetic z Minus a b = a -ℤ b
arithmetic z Plus a b = a +ℤ b
arithmetic z Times a b = a *ℤ b
arithmetic z Div a b = quotient z a b

abbrev pub compares : Comparison → ℤ → ℤ → Bool
compares AtMost a b = int_le a b
compares Less a b = int_lt a b
compares AtLeast a b = int_le b a
compares Greater a b = int_lt b a

-- whether n divides a
abbrev pub divides : ℕ → ℤ → Bool
divides n a = unsigned_abs a % n == 0

abbrev pub operate_ints : DivisionByZero → IntsOp → List ℤ → Element
operate_ints z (Left Minus) (a ∷ []) = Integer (neg_ℤ a)
operate_ints z (Left op) (a ∷ rest) = Integer (fold (arithmetic z op) a rest)
operate_ints z (Chain op) args = Truth (are_chained (compares op) args)
operate_ints z Mod (a ∷ n ∷ []) = Integer (remainder z a n)
operate_ints z Abs (a ∷ []) = Integer (pos (unsigned_abs a))
operate_ints z (Divisible n) (a ∷ []) = Truth (divides n a)
operate_ints z _ _ = Truth false

-- ---- theory FixedSizeBitVectors

-- of an integer so many bits, or what is made of bit vectors
abbrev pub operate_on_bits : Option ℕ → BitsOp → List Element → Element
operate_on_bits (Some n) op args = bits_of_int n (map integer_of args)
operate_on_bits None op args = operate_bits op (map vector_of args)

-- ---- all

-- What an operator makes of its arguments, where division by zero gives what z has. Of integers the operators on
-- numbers make what those of Ints make, which is the same (a law).
abbrev pub operate : DivisionByZero → Op → List Element → Element
operate z (Core op) args = operate_core op args
operate z (Ints op) args =
    if list_any is_fraction args then operate_numbers op (map number_of args)
    else operate_ints z op (map integer_of args)
operate z (Reals op) args = operate_reals z.ratios op (map number_of args)
operate z (Bits op) args = operate_on_bits (width_from_int op) op args
-- (no element here is an array)
operate z (Arrays op) args = Truth false
