-- What an operator on bit vectors is known to make of vectors that are all known: the standard's result,
-- where the arguments are of widths that the operator has a rank for and the result's width is within this
-- project's limit.
use Rattle.std.specs.Prelude.{ℕ, ◌%◌, ◌^◌, ◌==◌, ℤ, pos, List, [], ◌∷◌, Option, Some, None, option_and_then}
use Rattle.std.specs.Prelude.{option_map, nat_lt, if◌then◌else◌}
use Rattle.smt_bits.specs.BitVector.{BitVector, modulo, vector}
use Rattle.smt_bits.specs.Operators.{bvcomp}
use Rattle.smt_bits.specs.Parts.{concatenation, extraction, repetition, sign_extension, zero_extension}
use Rattle.smt_theory.specs.declared.op.BitsFolded.{BitsFolded}
use Rattle.smt_theory.specs.declared.op.BitsOp.{BitsOp}
use Rattle.smt_theory.specs.declared.op.BitsOp.TheVariants.{Constant, Concat, Extract, Unary, Folded, Binary}
use Rattle.smt_theory.specs.declared.op.BitsOp.TheVariants.{Comparison, Comp, Repeat, ZeroExtend, SignExtend}
use Rattle.smt_theory.specs.declared.op.BitsOp.TheVariants.{RotateLeft, RotateRight, FromInt, FromIntOlder}
use Rattle.smt_theory.specs.declared.op.BitsUnary.{BitsUnary}
use Rattle.smt_theory.specs.declared.op.BitsUnary.TheVariants.{Not, Negate, NegateOverflows, ToInt, ToIntOlder}
use Rattle.smt_theory.specs.declared.op.BitsUnary.TheVariants.{SignedToInt}
use Rattle.smt_values.specs.BitOperations.{are_compared, binary_vector, folded_vector, of_one, rotated_left}
use Rattle.smt_values.specs.BitOperations.{rotated_right}
use Rattle.smt_values.specs.Element.{Element, Truth, Integer, Vector}
use Rattle.smt_values.specs.Lists.{steps_from}

-- ---- as many arguments as an operator takes

abbrev pub none_given : List BitVector → Option (Unit {0})
none_given [] = Some tt
none_given (s ∷ rest) = None

abbrev pub the_only : List BitVector → Option BitVector
the_only (s ∷ []) = Some s
the_only _ = None

abbrev pub two_of_one_width : List BitVector → Option (BitVector × BitVector)
two_of_one_width (s ∷ t ∷ []) = if s.width == t.width then Some (s, t) else None
two_of_one_width _ = None

-- what is combined from the left
abbrev pub known_from_left : (BitVector → BitVector → Option BitVector) → List BitVector → Option BitVector
known_from_left combine [] = None
known_from_left combine (s ∷ rest) = steps_from combine s rest

-- ---- the operators

abbrev pub known_folded : BitsFolded → BitVector → BitVector → Option BitVector
known_folded op s t = if s.width == t.width then Some (folded_vector op s t) else None

-- as an integer a number is known below 2^127
abbrev pub known_number : BitVector → Option Element
known_number s = if nat_lt s.number (2 ^ 127) then Some (Integer (pos s.number)) else None

abbrev pub known_of_one : BitsUnary → BitVector → Option Element
known_of_one Not s = Some (of_one Not s)
known_of_one Negate s = Some (of_one Negate s)
known_of_one NegateOverflows s = Some (of_one NegateOverflows s)
known_of_one ToInt s = known_number s
known_of_one ToIntOlder s = known_number s
known_of_one SignedToInt s = Some (of_one SignedToInt s)

-- of an integer that is known
abbrev pub known_bits_of_int : ℕ → List ℤ → Option Element
known_bits_of_int n (z ∷ []) = Some (Vector (vector n (modulo n z)))
known_bits_of_int n _ = None

-- of vectors that are all known
abbrev pub known_bits : BitsOp → List BitVector → Option Element
known_bits (Constant x n) args = option_map (λ _. Vector (vector n (x % 2 ^ n))) (none_given args)
known_bits Concat args = option_map Vector (known_from_left concatenation args)
known_bits (Extract i j) args = option_map Vector (option_and_then (extraction i j) (the_only args))
known_bits (Unary op) args = option_and_then (known_of_one op) (the_only args)
known_bits (Folded op) args = option_map Vector (known_from_left (known_folded op) args)
known_bits (Binary op) args = option_map (λ p. Vector (binary_vector op p.0 p.1)) (two_of_one_width args)
known_bits (Comparison op) args = option_map (λ p. Truth (are_compared op p.0 p.1)) (two_of_one_width args)
known_bits Comp args =
    option_map (λ p. Vector (vector 1 (bvcomp p.0.number p.1.number))) (two_of_one_width args)
known_bits (Repeat i) args = option_map Vector (option_and_then (repetition i) (the_only args))
known_bits (ZeroExtend i) args = option_map Vector (option_and_then (zero_extension i) (the_only args))
known_bits (SignExtend i) args = option_map Vector (option_and_then (sign_extension i) (the_only args))
known_bits (RotateLeft i) args = option_map (λ s. Vector (rotated_left i s)) (the_only args)
known_bits (RotateRight i) args = option_map (λ s. Vector (rotated_right i s)) (the_only args)
known_bits (FromInt n) args = None
known_bits (FromIntOlder n) args = None
