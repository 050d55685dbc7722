-- SMT-LIB 2.6: the meaning of the operators on elements among which are arrays: of those of ArraysEx, of `=`,
-- `distinct` and `ite`, which take elements of any sort, and of all others, which take none that is an array.
use Rattle.std.specs.Prelude.{List, [], ◌∷◌, Bool, false, map, if◌then◌else◌}
use Rattle.smt_theory.specs.declared.op.ArraysOp.{ArraysOp}
use Rattle.smt_theory.specs.declared.op.ArraysOp.TheVariants.{Select, Store, Const}
use Rattle.smt_theory.specs.declared.op.CoreOp.TheVariants.{Equal, Distinct, Ite}
use Rattle.smt_theory.specs.declared.op.Op.{Op}
use Rattle.smt_theory.specs.declared.op.Op.TheVariants.{Core, Arrays}
use Rattle.smt_values.specs.Element as plain
use Rattle.smt_values.specs.Lists.{are_chained, are_distinct}
use Rattle.smt_values.specs.Operations as plain_operations
use Rattle.smt_values.specs.Operations.{DivisionByZero, truth_of}
use Rattle.smt_arrays.specs.Element.{Element, Plain, Filled, Written, plain_of}
use Rattle.smt_arrays.specs.Reading.{is_same, read}

abbrev pub truth : Bool → Element
truth b = Plain (plain.Truth b)

abbrev pub operate_arrays : ArraysOp → List Element → Element
operate_arrays Select (a ∷ i ∷ []) = read a i
operate_arrays Store (a ∷ i ∷ e ∷ []) = Written a i e
operate_arrays (Const sort) (e ∷ []) = Filled e
operate_arrays _ _ = truth false

abbrev pub chosen : List Element → Element
chosen (condition ∷ a ∷ b ∷ []) = if truth_of (plain_of condition) then a else b
chosen _ = truth false

-- what an operator makes of its arguments, where division by zero gives what z has
abbrev pub operate : DivisionByZero → Op → List Element → Element
operate z (Arrays op) args = operate_arrays op args
operate z (Core Equal) args = truth (are_chained is_same args)
operate z (Core Distinct) args = truth (are_distinct is_same args)
operate z (Core Ite) args = chosen args
operate z op args = Plain (plain_operations.operate z op (map plain_of args))
