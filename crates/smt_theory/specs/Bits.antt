-- SMT-LIB 2.6, theory FixedSizeBitVectors and logic QF_BV: the operators by name and indexes, each with its shape. The
-- profile Wide adds those of SMT-LIB 2.7, with the older names of conversions.
use Rattle.std.specs.Prelude.{ℕ, ◌≡◌, ◌<◌, ◌≤◌, ◌^◌, ◌++◌, List, [], ◌∷◌, Bool, true, false, ◌&&◌, ◌==◌, IsTrue}
use Rattle.std.specs.Prelude.{Option, Some, None, Result, Err, option_map, ok_or, nat_le, nat_lt, find}
use Rattle.std.specs.Prelude.{bytes_eq, codes, if◌then◌else◌}
use Rattle.std.specs.Option.{option_and_then, option_or}
use Rattle.std.specs.Str.Parse.{digits_value}
use Rattle.smt_theory.specs.Index.{IndexView, Number}
use Rattle.smt_theory.specs.Numbers.{is_numeral}
use Rattle.smt_theory.specs.Width.{width_of}
use Rattle.smt_theory.specs.declared.op.BitsBinary.TheVariants.{Nand, Nor, Xnor, Subtract, DivideUnsigned}
use Rattle.smt_theory.specs.declared.op.BitsBinary.TheVariants.{RemainderUnsigned, DivideSigned}
use Rattle.smt_theory.specs.declared.op.BitsBinary.TheVariants.{RemainderSigned, ModuloSigned, ShiftLeft}
use Rattle.smt_theory.specs.declared.op.BitsBinary.TheVariants.{ShiftRight, ShiftRightSigned}
use Rattle.smt_theory.specs.declared.op.BitsComparison.TheVariants.{UnsignedLess, UnsignedAtMost}
use Rattle.smt_theory.specs.declared.op.BitsComparison.TheVariants.{UnsignedGreater, UnsignedAtLeast}
use Rattle.smt_theory.specs.declared.op.BitsComparison.TheVariants.{SignedLess, SignedAtMost, SignedGreater}
use Rattle.smt_theory.specs.declared.op.BitsComparison.TheVariants.{SignedAtLeast, UnsignedAddOverflows}
use Rattle.smt_theory.specs.declared.op.BitsComparison.TheVariants.{SignedAddOverflows, UnsignedMultiplyOverflows}
use Rattle.smt_theory.specs.declared.op.BitsComparison.TheVariants.{SignedMultiplyOverflows}
use Rattle.smt_theory.specs.declared.op.BitsComparison.TheVariants.{UnsignedSubtractOverflows}
use Rattle.smt_theory.specs.declared.op.BitsComparison.TheVariants.{SignedSubtractOverflows, SignedDivideOverflows}
use Rattle.smt_theory.specs.declared.op.BitsFolded.TheVariants.{And, Or, Xor, Add, Multiply}
use Rattle.smt_theory.specs.declared.op.BitsOp.{BitsOp}
use Rattle.smt_theory.specs.declared.op.BitsOp.TheVariants.{Constant, Concat, Extract, Unary, Folded, Binary}
use Rattle.smt_theory.specs.declared.op.BitsOp.TheVariants.{Comparison, Comp, Repeat, ZeroExtend, SignExtend}
use Rattle.smt_theory.specs.declared.op.BitsOp.TheVariants.{RotateLeft, RotateRight, FromInt, FromIntOlder}
use Rattle.smt_theory.specs.declared.op.BitsUnary.{BitsUnary}
use Rattle.smt_theory.specs.declared.op.BitsUnary.TheVariants.{Not, Negate, NegateOverflows, ToInt, ToIntOlder}
use Rattle.smt_theory.specs.declared.op.BitsUnary.TheVariants.{SignedToInt}
use Rattle.smt_theory.specs.declared.op.OpFault.{OpFault}
use Rattle.smt_theory.specs.declared.op.OpFault.TheVariants.{Unknown, Index as WrongIndex}
use Rattle.smt_theory.specs.declared.shapes.Arity.TheVariants.{One, Two, Several}
use Rattle.smt_theory.specs.declared.shapes.Shape.{Shape}
use Rattle.smt_theory.specs.declared.shapes.Shape.TheVariants.{Constant as Nullary, Uniform, Vectors, Joined}
use Rattle.smt_theory.specs.declared.shapes.Shape.TheVariants.{OutOfRange}
use Rattle.smt_theory.specs.declared.shapes.Made.{Made}
use Rattle.smt_theory.specs.declared.shapes.Made.TheVariants.{Same, Given, Slice, Times, Longer}
use Rattle.smt_theory.specs.declared.theories.Theories.{Theories}
use Rattle.smt_theory.specs.Sort.{Boolean, Int, Bits}

-- the name of an operator; of a constant what stands before its numeral
abbrev pub bits_name : BitsOp → List ℕ
bits_name (Constant number width) = codes "bv"
bits_name Concat = codes "concat"
bits_name (Extract i j) = codes "extract"
bits_name (Unary Not) = codes "bvnot"
bits_name (Unary Negate) = codes "bvneg"
bits_name (Unary NegateOverflows) = codes "bvnego"
bits_name (Unary ToInt) = codes "ubv_to_int"
bits_name (Unary ToIntOlder) = codes "bv2nat"
bits_name (Unary SignedToInt) = codes "sbv_to_int"
bits_name (Folded And) = codes "bvand"
bits_name (Folded Or) = codes "bvor"
bits_name (Folded Xor) = codes "bvxor"
bits_name (Folded Add) = codes "bvadd"
bits_name (Folded Multiply) = codes "bvmul"
bits_name (Binary Nand) = codes "bvnand"
bits_name (Binary Nor) = codes "bvnor"
bits_name (Binary Xnor) = codes "bvxnor"
bits_name (Binary Subtract) = codes "bvsub"
bits_name (Binary DivideUnsigned) = codes "bvudiv"
bits_name (Binary RemainderUnsigned) = codes "bvurem"
bits_name (Binary DivideSigned) = codes "bvsdiv"
bits_name (Binary RemainderSigned) = codes "bvsrem"
bits_name (Binary ModuloSigned) = codes "bvsmod"
bits_name (Binary ShiftLeft) = codes "bvshl"
bits_name (Binary ShiftRight) = codes "bvlshr"
bits_name (Binary ShiftRightSigned) = codes "bvashr"
bits_name (Comparison UnsignedLess) = codes "bvult"
bits_name (Comparison UnsignedAtMost) = codes "bvule"
bits_name (Comparison UnsignedGreater) = codes "bvugt"
bits_name (Comparison UnsignedAtLeast) = codes "bvuge"
bits_name (Comparison SignedLess) = codes "bvslt"
bits_name (Comparison SignedAtMost) = codes "bvsle"
bits_name (Comparison SignedGreater) = codes "bvsgt"
bits_name (Comparison SignedAtLeast) = codes "bvsge"
bits_name (Comparison UnsignedAddOverflows) = codes "bvuaddo"
bits_name (Comparison SignedAddOverflows) = codes "bvsaddo"
bits_name (Comparison UnsignedMultiplyOverflows) = codes "bvumulo"
bits_name (Comparison SignedMultiplyOverflows) = codes "bvsmulo"
bits_name (Comparison UnsignedSubtractOverflows) = codes "bvusubo"
bits_name (Comparison SignedSubtractOverflows) = codes "bvssubo"
bits_name (Comparison SignedDivideOverflows) = codes "bvsdivo"
bits_name Comp = codes "bvcomp"
bits_name (Repeat i) = codes "repeat"
bits_name (ZeroExtend i) = codes "zero_extend"
bits_name (SignExtend i) = codes "sign_extend"
bits_name (RotateLeft i) = codes "rotate_left"
bits_name (RotateRight i) = codes "rotate_right"
bits_name (FromInt n) = codes "int_to_bv"
bits_name (FromIntOlder n) = codes "int2bv"

-- the plain operators of every profile
abbrev pub bitwise_plain : List BitsOp
bitwise_plain =
    Unary Not ∷ Unary Negate ∷ Folded And ∷ Folded Or ∷ Folded Xor ∷ Folded Add ∷ Folded Multiply ∷ Comp ∷ []

abbrev pub binary_plain : List BitsOp
binary_plain =
    Binary Nand ∷ Binary Nor ∷ Binary Xnor ∷ Binary Subtract ∷ Binary DivideUnsigned
    ∷ Binary RemainderUnsigned ∷ Binary DivideSigned ∷ Binary RemainderSigned ∷ Binary ModuloSigned
    ∷ Binary ShiftLeft ∷ Binary ShiftRight ∷ Binary ShiftRightSigned ∷ []

abbrev pub comparison_plain : List BitsOp
comparison_plain =
    Comparison UnsignedLess ∷ Comparison UnsignedAtMost ∷ Comparison UnsignedGreater
    ∷ Comparison UnsignedAtLeast ∷ Comparison SignedLess ∷ Comparison SignedAtMost
    ∷ Comparison SignedGreater ∷ Comparison SignedAtLeast ∷ []

abbrev pub bits_plain : List BitsOp
bits_plain = Concat ∷ (bitwise_plain ++ (binary_plain ++ comparison_plain))

-- the one of these operators that has this name
abbrev pub named_among : List BitsOp → List ℕ → Option BitsOp
named_among ops symbol = find (λ op. bytes_eq symbol (bits_name op)) ops

abbrev pub bits_named : List ℕ → Option BitsOp
bits_named symbol = named_among bits_plain symbol

-- those that the profile Wide adds: whether a result overflows, and, with integers too, bit vectors to integers
abbrev pub overflow_plain : List BitsOp
overflow_plain =
    Unary NegateOverflows ∷ Comparison UnsignedAddOverflows ∷ Comparison SignedAddOverflows
    ∷ Comparison UnsignedMultiplyOverflows ∷ Comparison SignedMultiplyOverflows
    ∷ Comparison UnsignedSubtractOverflows ∷ Comparison SignedSubtractOverflows
    ∷ Comparison SignedDivideOverflows ∷ []

abbrev pub conversion_plain : List BitsOp
conversion_plain = Unary ToInt ∷ Unary ToIntOlder ∷ Unary SignedToInt ∷ []

-- whether integers become bit vectors in these theories, and bit vectors integers
abbrev pub has_conversions : Theories → Bool
has_conversions theories = theories.wide && theories.bits && theories.ints

abbrev pub added_op : Theories → List ℕ → Option BitsOp
added_op theories symbol =
    if theories.wide && theories.bits then
    option_or (named_among overflow_plain symbol)
    (if theories.ints then named_among conversion_plain symbol else None)
    else None

-- whether a symbol begins with `bv`, as constants do and all plain operators of every profile but `concat`
abbrev pub begins_with_bv : List ℕ → Bool
begins_with_bv (b ∷ v ∷ rest) = b == 98 && v == 118
begins_with_bv _ = false

-- the numeral in a constant's name
abbrev pub constant_digits : List ℕ → Option (List ℕ)
constant_digits (b ∷ v ∷ digits) =
    if begins_with_bv (b ∷ v ∷ digits) && is_numeral digits then Some digits else None
constant_digits _ = None

-- the number that is the only index
abbrev pub only_number : List IndexView → Option ℕ
only_number (Number i ∷ []) = Some i
only_number _ = None

-- the width that is the only index
abbrev pub only_width : List IndexView → Option ℕ
only_width indexes = option_and_then width_of (only_number indexes)

abbrev pub constant_by : List ℕ → List IndexView → Option BitsOp
constant_by digits indexes =
    option_and_then (λ width. if nat_lt (digits_value 10 digits) (2 ^ width)
    then Some (Constant (digits_value 10 digits) width) else None)
    (only_width indexes)

abbrev pub extract_by : List IndexView → Option BitsOp
extract_by (Number i ∷ Number j ∷ []) = if nat_le j i then Some (Extract i j) else None
extract_by _ = None

abbrev pub repeat_by : List IndexView → Option BitsOp
repeat_by indexes = option_and_then (λ i. if nat_lt 0 i then Some (Repeat i) else None) (only_number indexes)

-- a name with a numeral in it is a constant's, whatever its indexes are
abbrev pub indexed_constant : Option (List ℕ) → List IndexView → Result BitsOp OpFault
indexed_constant None indexes = Err Unknown
indexed_constant (Some digits) indexes = ok_or (constant_by digits indexes) WrongIndex

-- one that makes a bit vector of an integer, where there are those, or a constant
abbrev pub indexed_other : Bool → List ℕ → List IndexView → Result BitsOp OpFault
indexed_other converts symbol indexes =
    if bytes_eq symbol (codes "int_to_bv") && converts
    then ok_or (option_map FromInt (only_width indexes)) WrongIndex
    else if bytes_eq symbol (codes "int2bv") && converts
    then ok_or (option_map FromIntOlder (only_width indexes)) WrongIndex
    else indexed_constant (constant_digits symbol) indexes

-- the operator `(_ symbol index ..)`
abbrev pub indexed_bits : Bool → List ℕ → List IndexView → Result BitsOp OpFault
indexed_bits converts symbol indexes =
    if bytes_eq symbol (codes "extract") then ok_or (extract_by indexes) WrongIndex
    else if bytes_eq symbol (codes "repeat") then ok_or (repeat_by indexes) WrongIndex
    else if bytes_eq symbol (codes "zero_extend")
    then ok_or (option_map ZeroExtend (only_number indexes)) WrongIndex
    else if bytes_eq symbol (codes "sign_extend")
    then ok_or (option_map SignExtend (only_number indexes)) WrongIndex
    else if bytes_eq symbol (codes "rotate_left")
    then ok_or (option_map RotateLeft (only_number indexes)) WrongIndex
    else if bytes_eq symbol (codes "rotate_right")
    then ok_or (option_map RotateRight (only_number indexes)) WrongIndex
    else indexed_other converts symbol indexes

-- ---- the form of each operator

-- whether a symbol is the operator's name: of a constant it is `bv` with a numeral of its number
abbrev pub IsBitsName : BitsOp → List ℕ → Type 0
IsBitsName (Constant number width) symbol =
    (digits : List ℕ) × (symbol ≡ codes "bv" ++ digits) × IsTrue (is_numeral digits)
    × (digits_value 10 digits ≡ number)
IsBitsName op symbol = symbol ≡ bits_name op

abbrev pub bits_indexes : BitsOp → List IndexView
bits_indexes (Constant number width) = Number width ∷ []
bits_indexes (Extract i j) = Number i ∷ Number j ∷ []
bits_indexes (Repeat i) = Number i ∷ []
bits_indexes (ZeroExtend i) = Number i ∷ []
bits_indexes (SignExtend i) = Number i ∷ []
bits_indexes (RotateLeft i) = Number i ∷ []
bits_indexes (RotateRight i) = Number i ∷ []
bits_indexes (FromInt n) = Number n ∷ []
bits_indexes (FromIntOlder n) = Number n ∷ []
bits_indexes _ = []

-- the operator's indexes are in range
abbrev pub AreInRange : BitsOp → Type 0
AreInRange (Constant number width) = (1 ≤ width) × (width ≤ 128) × (number < 2 ^ width)
AreInRange (Extract i j) = j ≤ i
AreInRange (Repeat i) = 0 < i
AreInRange (FromInt n) = (1 ≤ n) × (n ≤ 128)
AreInRange (FromIntOlder n) = (1 ≤ n) × (n ≤ 128)
AreInRange _ = Unit {0}

-- ---- which there are

-- whether it makes an integer of a bit vector, or a bit vector of an integer
abbrev pub is_conversion : BitsOp → Bool
is_conversion (Unary ToInt) = true
is_conversion (Unary ToIntOlder) = true
is_conversion (Unary SignedToInt) = true
is_conversion (FromInt n) = true
is_conversion (FromIntOlder n) = true
is_conversion _ = false

-- whether it tells that a result overflows
abbrev pub is_overflow : BitsOp → Bool
is_overflow (Unary NegateOverflows) = true
is_overflow (Comparison UnsignedAddOverflows) = true
is_overflow (Comparison SignedAddOverflows) = true
is_overflow (Comparison UnsignedMultiplyOverflows) = true
is_overflow (Comparison SignedMultiplyOverflows) = true
is_overflow (Comparison UnsignedSubtractOverflows) = true
is_overflow (Comparison SignedSubtractOverflows) = true
is_overflow (Comparison SignedDivideOverflows) = true
is_overflow _ = false

-- whether these theories have the operator
abbrev pub has_bits_op : Theories → BitsOp → Bool
has_bits_op theories op =
    if is_conversion op then has_conversions theories
    else if is_overflow op then theories.wide && theories.bits
    else theories.bits

-- ---- how each takes its arguments

-- what is made of one bit vector
abbrev pub made_of_one : BitsUnary → Made
made_of_one Not = Same
made_of_one Negate = Same
made_of_one NegateOverflows = Given Boolean
made_of_one ToInt = Given Int
made_of_one ToIntOlder = Given Int
made_of_one SignedToInt = Given Int

-- of an integer a bit vector of so many bits
abbrev pub shape_from_int : ℕ → Shape
shape_from_int n = if nat_le 1 n && nat_le n 128 then Uniform One Int (Bits n) else OutOfRange

abbrev pub bits_shape : BitsOp → Shape
bits_shape (Constant number n) =
    if nat_le 1 n && nat_le n 128 && nat_lt number (2 ^ n) then Nullary (Bits n) else OutOfRange
bits_shape Concat = Joined
bits_shape (Extract i j) = Vectors One (Slice i j)
bits_shape (Unary op) = Vectors One (made_of_one op)
bits_shape (Folded op) = Vectors Several Same
bits_shape (Binary op) = Vectors Two Same
bits_shape (Comparison op) = Vectors Two (Given Boolean)
bits_shape Comp = Vectors Two (Given (Bits 1))
bits_shape (Repeat i) = Vectors One (Times i)
bits_shape (ZeroExtend i) = Vectors One (Longer i)
bits_shape (SignExtend i) = Vectors One (Longer i)
bits_shape (RotateLeft i) = Vectors One Same
bits_shape (RotateRight i) = Vectors One Same
bits_shape (FromInt n) = shape_from_int n
bits_shape (FromIntOlder n) = shape_from_int n

-- whether an operator holds a number
abbrev pub bits_number : BitsOp → Bool
bits_number (Constant x width) = true
bits_number (Extract i j) = true
bits_number (Repeat i) = true
bits_number (ZeroExtend i) = true
bits_number (SignExtend i) = true
bits_number (RotateLeft i) = true
bits_number (RotateRight i) = true
bits_number (FromInt n) = true
bits_number (FromIntOlder n) = true
bits_number _ = false

-- ---- the one plain operator that a name can be, as its length and some of its bytes tell

-- of a name of five bytes, of which the third to the fifth are c, d and e
abbrev pub bits_of_five : ℕ → ℕ → ℕ → Option BitsOp
bits_of_five c d e =
    if c == 97 && d == 100 then Some (Folded Add)
    else if c == 97 && d == 110 then Some (Folded And)
    else if c == 109 then Some (Folded Multiply)
    else if c == 110 && d == 101 then Some (Unary Negate)
    else if c == 110 && d == 111 && e == 116 then Some (Unary Not)
    else if c == 110 && d == 111 && e == 114 then Some (Binary Nor)
    else if c == 115 && d == 104 then Some (Binary ShiftLeft)
    else if c == 115 && d == 117 then Some (Binary Subtract)
    else if c == 115 && d == 103 && e == 101 then Some (Comparison SignedAtLeast)
    else if c == 115 && d == 103 && e == 116 then Some (Comparison SignedGreater)
    else if c == 115 && d == 108 && e == 101 then Some (Comparison SignedAtMost)
    else if c == 115 && d == 108 && e == 116 then Some (Comparison SignedLess)
    else if c == 117 && d == 103 && e == 101 then Some (Comparison UnsignedAtLeast)
    else if c == 117 && d == 103 && e == 116 then Some (Comparison UnsignedGreater)
    else if c == 117 && d == 108 && e == 101 then Some (Comparison UnsignedAtMost)
    else if c == 117 && d == 108 && e == 116 then Some (Comparison UnsignedLess)
    else if c == 120 then Some (Folded Xor)
    else None

-- of a name of six bytes, of which the third and the fourth are c and d
abbrev pub bits_of_six : ℕ → ℕ → Option BitsOp
bits_of_six c d =
    if c == 97 then Some (Binary ShiftRightSigned)
    else if c == 99 then Some Comp
    else if c == 108 then Some (Binary ShiftRight)
    else if c == 110 && d == 97 then Some (Binary Nand)
    else if c == 110 && d == 99 then Some Concat
    else if c == 115 && d == 100 then Some (Binary DivideSigned)
    else if c == 115 && d == 109 then Some (Binary ModuloSigned)
    else if c == 115 && d == 114 then Some (Binary RemainderSigned)
    else if c == 117 && d == 100 then Some (Binary DivideUnsigned)
    else if c == 117 && d == 114 then Some (Binary RemainderUnsigned)
    else if c == 120 then Some (Binary Xnor)
    else None

-- of a name of n bytes, of which the third to the fifth are c, d and e
abbrev pub bits_like : ℕ → ℕ → ℕ → ℕ → Option BitsOp
bits_like n c d e =
    if n == 5 then bits_of_five c d e
    else if n == 6 then bits_of_six c d
    else if n == 4 && c == 111 then Some (Folded Or)
    else None
