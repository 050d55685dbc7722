-- SMT-LIB 2.6, theory FixedSizeBitVectors and logic QF_BV, and SMT-LIB 2.7: the meaning of the operators on bit
-- vectors. There is no limit to widths here. What an operator gives for arguments that it has no rank for is of no
-- interest.
use Rattle.std.specs.Prelude.{ℕ, ◌+◌, ◌-◌, ◌*◌, ◌%◌, ◌^◌, ℤ, pos, int_le, int_lt, nat_le, nat_lt, List, [], ◌∷◌}
use Rattle.std.specs.Prelude.{Bool, false, fold, Option, Some, None}
use Rattle.smt_bits.specs.BitVector.{BitVector, modulo, signed, vector}
use Rattle.smt_bits.specs.Operators.{bvneg, bvadd, bvsub, bvmul, bvudiv, bvurem, bvnot, bvand, bvor, bvxor}
use Rattle.smt_bits.specs.Operators.{bvnand, bvnor, bvxnor, bvsdiv, bvsrem, bvsmod, bvshl, bvlshr, bvashr}
use Rattle.smt_bits.specs.Operators.{bvcomp, concat, extract, repeat, sign_extend, rotate_left, rotate_right}
use Rattle.smt_bits.specs.Operators.{bvnego, bvuaddo, bvsaddo, bvumulo, bvsmulo, bvusubo, bvssubo, bvsdivo}
use Rattle.smt_theory.specs.declared.op.BitsBinary.{BitsBinary}
use Rattle.smt_theory.specs.declared.op.BitsBinary.TheVariants.{Nand, Nor, Xnor, Subtract, DivideUnsigned}
use Rattle.smt_theory.specs.declared.op.BitsBinary.TheVariants.{RemainderUnsigned, DivideSigned}
use Rattle.smt_theory.specs.declared.op.BitsBinary.TheVariants.{RemainderSigned, ModuloSigned, ShiftLeft}
use Rattle.smt_theory.specs.declared.op.BitsBinary.TheVariants.{ShiftRight, ShiftRightSigned}
use Rattle.smt_theory.specs.declared.op.BitsComparison.{BitsComparison}
use Rattle.smt_theory.specs.declared.op.BitsComparison.TheVariants.{UnsignedLess, UnsignedAtMost}
use Rattle.smt_theory.specs.declared.op.BitsComparison.TheVariants.{UnsignedGreater, UnsignedAtLeast}
use Rattle.smt_theory.specs.declared.op.BitsComparison.TheVariants.{SignedLess, SignedAtMost, SignedGreater}
use Rattle.smt_theory.specs.declared.op.BitsComparison.TheVariants.{SignedAtLeast, UnsignedAddOverflows}
use Rattle.smt_theory.specs.declared.op.BitsComparison.TheVariants.{SignedAddOverflows, UnsignedMultiplyOverflows}
use Rattle.smt_theory.specs.declared.op.BitsComparison.TheVariants.{SignedMultiplyOverflows}
use Rattle.smt_theory.specs.declared.op.BitsComparison.TheVariants.{UnsignedSubtractOverflows}
use Rattle.smt_theory.specs.declared.op.BitsComparison.TheVariants.{SignedSubtractOverflows, SignedDivideOverflows}
use Rattle.smt_theory.specs.declared.op.BitsFolded.{BitsFolded}
use Rattle.smt_theory.specs.declared.op.BitsFolded.TheVariants.{And, Or, Xor, Add, Multiply}
use Rattle.smt_theory.specs.declared.op.BitsOp.{BitsOp}
use Rattle.smt_theory.specs.declared.op.BitsOp.TheVariants.{Constant, Concat, Extract, Unary, Folded, Binary}
use Rattle.smt_theory.specs.declared.op.BitsOp.TheVariants.{Comparison, Comp, Repeat, ZeroExtend, SignExtend}
use Rattle.smt_theory.specs.declared.op.BitsOp.TheVariants.{RotateLeft, RotateRight, FromInt, FromIntOlder}
use Rattle.smt_theory.specs.declared.op.BitsUnary.{BitsUnary}
use Rattle.smt_theory.specs.declared.op.BitsUnary.TheVariants.{Not, Negate, NegateOverflows, ToInt, ToIntOlder}
use Rattle.smt_theory.specs.declared.op.BitsUnary.TheVariants.{SignedToInt}
use Rattle.smt_values.specs.Element.{Element, Truth, Integer, Vector}

-- ---- on numbers of m bits

abbrev pub folded : BitsFolded → ℕ → ℕ → ℕ → ℕ
folded And m s t = bvand m s t
folded Or m s t = bvor m s t
folded Xor m s t = bvxor m s t
folded Add m s t = bvadd m s t
folded Multiply m s t = bvmul m s t

abbrev pub binary : BitsBinary → ℕ → ℕ → ℕ → ℕ
binary Nand m s t = bvnand m s t
binary Nor m s t = bvnor m s t
binary Xnor m s t = bvxnor m s t
binary Subtract m s t = bvsub m s t
binary DivideUnsigned m s t = bvudiv m s t
binary RemainderUnsigned m s t = bvurem m s t
binary DivideSigned m s t = bvsdiv m s t
binary RemainderSigned m s t = bvsrem m s t
binary ModuloSigned m s t = bvsmod m s t
binary ShiftLeft m s t = bvshl m s t
binary ShiftRight m s t = bvlshr m s t
binary ShiftRightSigned m s t = bvashr m s t

abbrev pub compares_bits : BitsComparison → ℕ → ℕ → ℕ → Bool
compares_bits UnsignedLess m s t = nat_lt s t
compares_bits UnsignedAtMost m s t = nat_le s t
compares_bits UnsignedGreater m s t = nat_lt t s
compares_bits UnsignedAtLeast m s t = nat_le t s
compares_bits SignedLess m s t = int_lt (signed m s) (signed m t)
compares_bits SignedAtMost m s t = int_le (signed m s) (signed m t)
compares_bits SignedGreater m s t = int_lt (signed m t) (signed m s)
compares_bits SignedAtLeast m s t = int_le (signed m t) (signed m s)
compares_bits UnsignedAddOverflows m s t = bvuaddo m s t
compares_bits SignedAddOverflows m s t = bvsaddo m s t
compares_bits UnsignedMultiplyOverflows m s t = bvumulo m s t
compares_bits SignedMultiplyOverflows m s t = bvsmulo m s t
compares_bits UnsignedSubtractOverflows m s t = bvusubo m s t
compares_bits SignedSubtractOverflows m s t = bvssubo m s t
compares_bits SignedDivideOverflows m s t = bvsdivo m s t

-- ---- on vectors; where there are two, they are of one width

abbrev pub of_one : BitsUnary → BitVector → Element
of_one Not s = Vector (vector s.width (bvnot s.width s.number))
of_one Negate s = Vector (vector s.width (bvneg s.width s.number))
of_one NegateOverflows s = Truth (bvnego s.width s.number)
of_one ToInt s = Integer (pos s.number)
of_one ToIntOlder s = Integer (pos s.number)
of_one SignedToInt s = Integer (signed s.width s.number)

abbrev pub folded_vector : BitsFolded → BitVector → BitVector → BitVector
folded_vector op s t = vector s.width (folded op s.width s.number t.number)

abbrev pub binary_vector : BitsBinary → BitVector → BitVector → BitVector
binary_vector op s t = vector s.width (binary op s.width s.number t.number)

abbrev pub are_compared : BitsComparison → BitVector → BitVector → Bool
are_compared op s t = compares_bits op s.width s.number t.number

-- s above t
abbrev pub concatenated : BitVector → BitVector → BitVector
concatenated s t = vector (s.width + t.width) (concat t.width s.number t.number)

abbrev pub rotated_left : ℕ → BitVector → BitVector
rotated_left i s = vector s.width (rotate_left i s.width s.number)

abbrev pub rotated_right : ℕ → BitVector → BitVector
rotated_right i s = vector s.width (rotate_right i s.width s.number)

-- what an operator makes of its arguments. A constant's number is below 2 ^ n where it has a rank
abbrev pub operate_bits : BitsOp → List BitVector → Element
operate_bits (Constant x n) args = Vector (vector n (x % 2 ^ n))
operate_bits Concat (s ∷ rest) = Vector (fold concatenated s rest)
operate_bits (Extract i j) (s ∷ []) = Vector (vector (i - j + 1) (extract i j s.number))
operate_bits (Unary op) (s ∷ []) = of_one op s
operate_bits (Folded op) (s ∷ rest) = Vector (fold (folded_vector op) s rest)
operate_bits (Binary op) (s ∷ t ∷ []) = Vector (binary_vector op s t)
operate_bits (Comparison op) (s ∷ t ∷ []) = Truth (are_compared op s t)
operate_bits Comp (s ∷ t ∷ []) = Vector (vector 1 (bvcomp s.number t.number))
operate_bits (Repeat i) (s ∷ []) = Vector (vector (i * s.width) (repeat i s.width s.number))
operate_bits (ZeroExtend i) (s ∷ []) = Vector (vector (s.width + i) s.number)
operate_bits (SignExtend i) (s ∷ []) = Vector (vector (s.width + i) (sign_extend i s.width s.number))
operate_bits (RotateLeft i) (s ∷ []) = Vector (rotated_left i s)
operate_bits (RotateRight i) (s ∷ []) = Vector (rotated_right i s)
operate_bits _ _ = Truth false

-- ---- of integers

-- the width of what an operator makes of an integer; the others make something of bit vectors
abbrev pub width_from_int : BitsOp → Option ℕ
width_from_int (FromInt n) = Some n
width_from_int (FromIntOlder n) = Some n
width_from_int _ = None

-- the n bits of the only one of these integers
abbrev pub bits_of_int : ℕ → List ℤ → Element
bits_of_int n (z ∷ []) = Vector (vector n (modulo n z))
bits_of_int n _ = Truth false
