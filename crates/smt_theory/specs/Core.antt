-- SMT-LIB 2.6, theory Core: the operators by name, each with its shape.
use Rattle.std.specs.Prelude.{ℕ, ◌==◌, ◌&&◌, List, [], ◌∷◌, Option, Some, None, find, bytes_eq, codes, if◌then◌else◌}
use Rattle.smt_theory.specs.Sort.{Boolean}
use Rattle.smt_theory.specs.declared.op.CoreOp.{CoreOp}
use Rattle.smt_theory.specs.declared.op.CoreOp.TheVariants.{True, False, Not, Implies, And, Or, Xor, Equal}
use Rattle.smt_theory.specs.declared.op.CoreOp.TheVariants.{Distinct, Ite}
use Rattle.smt_theory.specs.declared.shapes.Arity.TheVariants.{One, Several}
use Rattle.smt_theory.specs.declared.shapes.Shape.{Shape}
use Rattle.smt_theory.specs.declared.shapes.Shape.TheVariants.{Constant, Uniform, Alike, Choice}

abbrev pub core_name : CoreOp → List ℕ
core_name True = codes "true"
core_name False = codes "false"
core_name Not = codes "not"
core_name Implies = codes "=>"
core_name And = codes "and"
core_name Or = codes "or"
core_name Xor = codes "xor"
core_name Equal = codes "="
core_name Distinct = codes "distinct"
core_name Ite = codes "ite"

-- the plain operators, that is those without indexes
abbrev pub core_plain : List CoreOp
core_plain = True ∷ False ∷ Not ∷ Implies ∷ And ∷ Or ∷ Xor ∷ Equal ∷ Distinct ∷ Ite ∷ []

abbrev pub core_named : List ℕ → Option CoreOp
core_named symbol = find (λ op. bytes_eq symbol (core_name op)) core_plain

-- how each takes its arguments
abbrev pub core_shape : CoreOp → Shape
core_shape True = Constant Boolean
core_shape False = Constant Boolean
core_shape Not = Uniform One Boolean Boolean
core_shape Implies = Uniform Several Boolean Boolean
core_shape And = Uniform Several Boolean Boolean
core_shape Or = Uniform Several Boolean Boolean
core_shape Xor = Uniform Several Boolean Boolean
core_shape Equal = Alike
core_shape Distinct = Alike
core_shape Ite = Choice

-- the one plain operator that a name can be, as its length and its first byte tell

-- of a name of n bytes, of which the first is a
abbrev pub core_like : ℕ → ℕ → Option CoreOp
core_like n a =
    if n == 1 && a == 61 then Some Equal
    else if n == 2 && a == 61 then Some Implies
    else if n == 2 && a == 111 then Some Or
    else if n == 3 && a == 97 then Some And
    else if n == 3 && a == 105 then Some Ite
    else if n == 3 && a == 110 then Some Not
    else if n == 3 && a == 120 then Some Xor
    else if n == 4 && a == 116 then Some True
    else if n == 5 && a == 102 then Some False
    else if n == 8 && a == 100 then Some Distinct
    else None
