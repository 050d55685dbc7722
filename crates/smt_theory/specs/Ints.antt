-- SMT-LIB 2.6, theory Ints: the operators by name and indexes, each with its shape.
use Rattle.std.specs.Prelude.{ℕ, ◌==◌, ◌&&◌, List, [], ◌∷◌, Bool, true, false, Option, Some, None, find, bytes_eq}
use Rattle.std.specs.Prelude.{codes, nat_lt, if◌then◌else◌}
use Rattle.smt_theory.specs.Index.{IndexView, Number}
use Rattle.smt_theory.specs.Sort.{Boolean, Int}
use Rattle.smt_theory.specs.declared.op.Arithmetic.TheVariants.{Minus, Plus, Times, Div}
use Rattle.smt_theory.specs.declared.op.Comparison.TheVariants.{AtMost, Less, AtLeast, Greater}
use Rattle.smt_theory.specs.declared.op.IntsOp.{IntsOp}
use Rattle.smt_theory.specs.declared.op.IntsOp.TheVariants.{Arithmetic, Comparison, Mod, Abs, Divisible}
use Rattle.smt_theory.specs.declared.op.Op.{Op}
use Rattle.smt_theory.specs.declared.op.Op.TheVariants.{Ints}
use Rattle.smt_theory.specs.declared.shapes.Arity.TheVariants.{One, Two, OneOrMore, Several}
use Rattle.smt_theory.specs.declared.shapes.Shape.{Shape}
use Rattle.smt_theory.specs.declared.shapes.Shape.TheVariants.{Uniform, Calculated, Numbers, OutOfRange}

abbrev pub ints_name : IntsOp → List ℕ
ints_name (Arithmetic Minus) = codes "-"
ints_name (Arithmetic Plus) = codes "+"
ints_name (Arithmetic Times) = codes "*"
ints_name (Arithmetic Div) = codes "div"
ints_name Mod = codes "mod"
ints_name Abs = codes "abs"
ints_name (Comparison AtMost) = codes "<="
ints_name (Comparison Less) = codes "<"
ints_name (Comparison AtLeast) = codes ">="
ints_name (Comparison Greater) = codes ">"
ints_name (Divisible n) = codes "divisible"

-- the plain operators, that is those without indexes
abbrev pub ints_plain : List IntsOp
ints_plain =
    Arithmetic Minus ∷ Arithmetic Plus ∷ Arithmetic Times ∷ Arithmetic Div ∷ Mod ∷ Abs ∷ Comparison AtMost
    ∷ Comparison Less ∷ Comparison AtLeast ∷ Comparison Greater ∷ []

abbrev pub ints_named : List ℕ → Option IntsOp
ints_named symbol = find (λ op. bytes_eq symbol (ints_name op)) ints_plain

-- the indexes of `divisible` are one number that is not 0
abbrev pub divisible_by : List IndexView → Option Op
divisible_by (Number n ∷ []) = if nat_lt 0 n then Some (Ints (Divisible n)) else None
divisible_by _ = None

-- how each takes its arguments
abbrev pub ints_shape : IntsOp → Shape
ints_shape (Arithmetic Minus) = Calculated OneOrMore
ints_shape (Arithmetic Plus) = Calculated Several
ints_shape (Arithmetic Times) = Calculated Several
ints_shape (Arithmetic Div) = Uniform Several Int Int
ints_shape (Comparison op) = Numbers Several Boolean
ints_shape Mod = Uniform Two Int Int
ints_shape Abs = Uniform One Int Int
ints_shape (Divisible n) = if nat_lt 0 n then Uniform One Int Boolean else OutOfRange

-- whether an operator holds a number
abbrev pub ints_number : IntsOp → Bool
ints_number (Divisible n) = true
ints_number _ = false

-- the one plain operator that a name of n bytes can be, of which the first is a
abbrev pub ints_like : ℕ → ℕ → Option IntsOp
ints_like n a =
    if n == 1 && a == 45 then Some (Arithmetic Minus)
    else if n == 1 && a == 43 then Some (Arithmetic Plus)
    else if n == 1 && a == 42 then Some (Arithmetic Times)
    else if n == 1 && a == 60 then Some (Comparison Less)
    else if n == 1 && a == 62 then Some (Comparison Greater)
    else if n == 2 && a == 60 then Some (Comparison AtMost)
    else if n == 2 && a == 62 then Some (Comparison AtLeast)
    else if n == 3 && a == 97 then Some Abs
    else if n == 3 && a == 100 then Some (Arithmetic Div)
    else if n == 3 && a == 109 then Some Mod
    else None
