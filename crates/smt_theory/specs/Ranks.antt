-- SMT-LIB 2.6, theories Core, Reals_Ints, FixedSizeBitVectors and ArraysEx, and logic QF_BV: the ranks of the
-- operators, each by its shape. The shapes have one line for each row of the standard's theory files.
use Rattle.std.specs.Prelude.{List, Option}
use Rattle.smt_theory.specs.Arrays.{arrays_shape}
use Rattle.smt_theory.specs.Bits.{bits_shape}
use Rattle.smt_theory.specs.Core.{core_shape}
use Rattle.smt_theory.specs.Ints.{ints_shape}
use Rattle.smt_theory.specs.Reals.{reals_shape}
use Rattle.smt_theory.specs.Shapes.{HasShape, rank_by}
use Rattle.smt_theory.specs.Sort.{Sort}
use Rattle.smt_theory.specs.declared.op.Op.{Op}
use Rattle.smt_theory.specs.declared.op.Op.TheVariants as ops
use Rattle.smt_theory.specs.declared.shapes.Shape.{Shape}

abbrev pub shape_of : Op → Shape
shape_of (ops.Core op) = core_shape op
shape_of (ops.Ints op) = ints_shape op
shape_of (ops.Reals op) = reals_shape op
shape_of (ops.Bits op) = bits_shape op
shape_of (ops.Arrays op) = arrays_shape op

-- an operator, the sorts of its arguments, the sort of its result
abbrev pub HasRank : Op → List Sort → Sort → Type 0
HasRank op args result = HasShape (shape_of op) args result

-- the sort of an operator's result for arguments of these sorts
abbrev pub rank_of : Op → List Sort → Option Sort
rank_of op args = rank_by (shape_of op) args
