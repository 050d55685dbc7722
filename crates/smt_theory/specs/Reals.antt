-- SMT-LIB 2.6, theories Reals and Reals_Ints: the operators that are none of Ints by name, each with its shape, and
-- which of Ints there are with Reals. That integers and reals mix is this project's own.
use Rattle.std.specs.Prelude.{ℕ, ◌&&◌, List, [], ◌∷◌, Bool, true, false, Option, find, bytes_eq, codes}
use Rattle.smt_theory.specs.Sort.{Boolean, Int, Real}
use Rattle.smt_theory.specs.declared.op.Arithmetic.TheVariants.{Div}
use Rattle.smt_theory.specs.declared.op.IntsOp.{IntsOp}
use Rattle.smt_theory.specs.declared.op.IntsOp.TheVariants.{Arithmetic, Comparison}
use Rattle.smt_theory.specs.declared.op.RealsOp.{RealsOp}
use Rattle.smt_theory.specs.declared.op.RealsOp.TheVariants.{Divide, ToReal, ToInt, IsInt}
use Rattle.smt_theory.specs.declared.shapes.Arity.TheVariants.{One, Several}
use Rattle.smt_theory.specs.declared.shapes.Shape.{Shape}
use Rattle.smt_theory.specs.declared.shapes.Shape.TheVariants.{Numbers, Uniform}
use Rattle.smt_theory.specs.declared.theories.Theories.{Theories}

abbrev pub reals_name : RealsOp → List ℕ
reals_name Divide = codes "/"
reals_name ToReal = codes "to_real"
reals_name ToInt = codes "to_int"
reals_name IsInt = codes "is_int"

abbrev pub reals_plain : List RealsOp
reals_plain = Divide ∷ ToReal ∷ ToInt ∷ IsInt ∷ []

abbrev pub reals_named : List ℕ → Option RealsOp
reals_named symbol = find (λ op. bytes_eq symbol (reals_name op)) reals_plain

-- how each takes its arguments
abbrev pub reals_shape : RealsOp → Shape
reals_shape Divide = Numbers Several Real
reals_shape ToReal = Uniform One Int Real
reals_shape ToInt = Numbers One Int
reals_shape IsInt = Numbers One Boolean

-- whether an operator of these is there: those between integers and reals only where both are
abbrev pub has_reals_op : Theories → RealsOp → Bool
has_reals_op theories Divide = theories.reals
has_reals_op theories _ = theories.reals && theories.ints

-- whether an operator of Ints is one of Reals too
abbrev pub is_of_reals : IntsOp → Bool
is_of_reals (Arithmetic Div) = false
is_of_reals (Arithmetic op) = true
is_of_reals (Comparison op) = true
is_of_reals _ = false
