-- SMT-LIB 2.6, theory ArraysEx: the operators, each with its shape. `((as const o) t)`, whose sort is part of the
-- operator, is no standard's: solvers print it.
use Rattle.std.specs.Prelude.{ℕ, ◌≡◌, List, [], ◌∷◌, Bool, true, false, Option, find, bytes_eq, codes}
use Rattle.smt_theory.specs.declared.op.ArraysOp.{ArraysOp}
use Rattle.smt_theory.specs.declared.op.ArraysOp.TheVariants.{Select, Store, Const}
use Rattle.smt_theory.specs.declared.shapes.Shape.{Shape}
use Rattle.smt_theory.specs.declared.shapes.Shape.TheVariants.{Selected, Stored, Filled}

abbrev pub arrays_name : ArraysOp → List ℕ
arrays_name Select = codes "select"
arrays_name Store = codes "store"
arrays_name (Const sort) = codes "const"

-- whether a symbol alone is the operator's name
abbrev pub IsArraysName : ArraysOp → List ℕ → Type 0
IsArraysName (Const sort) symbol = ⊥
IsArraysName op symbol = symbol ≡ arrays_name op

abbrev pub arrays_plain : List ArraysOp
arrays_plain = Select ∷ Store ∷ []

abbrev pub arrays_named : List ℕ → Option ArraysOp
arrays_named symbol = find (λ op. bytes_eq symbol (arrays_name op)) arrays_plain

-- whether an operator holds its sort
abbrev pub arrays_number : ArraysOp → Bool
arrays_number (Const sort) = true
arrays_number _ = false

-- how each takes its arguments
abbrev pub arrays_shape : ArraysOp → Shape
arrays_shape Select = Selected
arrays_shape Store = Stored
arrays_shape (Const sort) = Filled sort
