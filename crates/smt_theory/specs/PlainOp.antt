-- Operators that hold no number, and those that do.
use Rattle.std.specs.Prelude.{Bool, false}
use Rattle.smt_theory.specs.Arrays.{arrays_number}
use Rattle.smt_theory.specs.Bits.{bits_number}
use Rattle.smt_theory.specs.Ints.{ints_number}
use Rattle.smt_theory.specs.declared.op.ArraysOp.TheVariants as arrays
use Rattle.smt_theory.specs.declared.op.BitsOp.TheVariants as bits
use Rattle.smt_theory.specs.declared.op.IntsOp.TheVariants as ints
use Rattle.smt_theory.specs.declared.op.Op.{Op}
use Rattle.smt_theory.specs.declared.op.Op.TheVariants as ops
use Rattle.smt_theory.specs.declared.op.plain.PlainOp.{PlainOp}
use Rattle.smt_theory.specs.declared.op.plain.PlainOp.TheVariants.{Core, Arithmetic, Order, Mod, Abs, Reals, Concat}
use Rattle.smt_theory.specs.declared.op.plain.PlainOp.TheVariants.{Unary, Folded, Binary, BitsOrder, Comp}
use Rattle.smt_theory.specs.declared.op.plain.PlainOp.TheVariants.{Select, Store}

abbrev pub op_of_plain : PlainOp → Op
op_of_plain (Core op) = ops.Core op
op_of_plain (Arithmetic op) = ops.Ints (ints.Arithmetic op)
op_of_plain (Order op) = ops.Ints (ints.Comparison op)
op_of_plain Mod = ops.Ints ints.Mod
op_of_plain Abs = ops.Ints ints.Abs
op_of_plain (Reals op) = ops.Reals op
op_of_plain Concat = ops.Bits bits.Concat
op_of_plain (Unary op) = ops.Bits (bits.Unary op)
op_of_plain (Folded op) = ops.Bits (bits.Folded op)
op_of_plain (Binary op) = ops.Bits (bits.Binary op)
op_of_plain (BitsOrder op) = ops.Bits (bits.Comparison op)
op_of_plain Comp = ops.Bits bits.Comp
op_of_plain Select = ops.Arrays arrays.Select
op_of_plain Store = ops.Arrays arrays.Store

-- whether an operator holds a number, or a sort
abbrev pub has_number : Op → Bool
has_number (ops.Core op) = false
has_number (ops.Ints op) = ints_number op
has_number (ops.Reals op) = false
has_number (ops.Bits op) = bits_number op
has_number (ops.Arrays op) = arrays_number op
