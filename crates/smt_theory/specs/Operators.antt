-- SMT-LIB 2.6, theories Core, Reals_Ints, FixedSizeBitVectors and ArraysEx, and logic QF_BV: the operators by
-- name and indexes.
use Rattle.std.specs.Prelude.{ℕ, true, false, ◌≡◌, ◌≢◌, ◌<◌, List, [], ◌∷◌, Bool, ◌&&◌, ◌||◌, IsTrue, Option, None}
use Rattle.std.specs.Prelude.{Result, Ok, Err, is_some, option_map, ok_or, bytes_eq, codes}
use Rattle.std.specs.Prelude.{if◌then◌else◌}
use Rattle.std.specs.Option.{option_or}
use Rattle.smt_theory.specs.Arrays.{IsArraysName, arrays_name, arrays_named}
use Rattle.smt_theory.specs.Bits.{AreInRange, IsBitsName, added_op, bits_indexes, bits_name, bits_named}
use Rattle.smt_theory.specs.Bits.{has_bits_op, has_conversions, indexed_bits}
use Rattle.smt_theory.specs.Core.{core_name, core_named}
use Rattle.smt_theory.specs.Index.{IndexView, Number}
use Rattle.smt_theory.specs.Ints.{divisible_by, ints_name, ints_named}
use Rattle.smt_theory.specs.Reals.{has_reals_op, is_of_reals, reals_name, reals_named}
use Rattle.smt_theory.specs.Words.{if_passes, result_and_then}
use Rattle.smt_theory.specs.declared.op.IntsOp.{IntsOp}
use Rattle.smt_theory.specs.declared.op.IntsOp.TheVariants.{Divisible}
use Rattle.smt_theory.specs.declared.op.CoreOp.TheVariants.{Ite}
use Rattle.smt_theory.specs.declared.op.Op.{Op}
use Rattle.smt_theory.specs.declared.op.Op.TheVariants.{Core, Ints, Reals, Bits, Arrays}
use Rattle.smt_theory.specs.declared.op.OpFault.{OpFault}
use Rattle.smt_theory.specs.declared.op.OpFault.TheVariants.{Unknown, Index as WrongIndex}
use Rattle.smt_theory.specs.declared.theories.Theories.{Theories}

-- the name of an operator; of a constant what stands before its numeral
abbrev pub name_of : Op → List ℕ
name_of (Core op) = core_name op
name_of (Ints op) = ints_name op
name_of (Reals op) = reals_name op
name_of (Bits op) = bits_name op
name_of (Arrays op) = arrays_name op

-- whether an operator is `ite`
abbrev pub is_choice : Op → Bool
is_choice (Core Ite) = true
is_choice _ = false

-- whether an operator is one on arrays
abbrev pub is_on_arrays : Op → Bool
is_on_arrays (Arrays op) = true
is_on_arrays _ = false

-- whether an operator of Ints is there: with reals alone those that are of Reals too
abbrev pub has_ints_op : Theories → IntsOp → Bool
has_ints_op theories op = theories.ints || theories.reals && is_of_reals op

-- whether it is an operator of Ints that is of Reals too
abbrev pub is_of_both : Op → Bool
is_of_both (Ints op) = is_of_reals op
is_of_both _ = false

-- the plain operator of a name
abbrev pub plain_op : Theories → List ℕ → Option Op
plain_op theories symbol =
    option_or (option_map Core (core_named symbol))
    (option_or (option_map Ints (if_passes (has_ints_op theories) (ints_named symbol)))
    (option_or (if theories.bits then option_map Bits (bits_named symbol) else None)
    (option_or (option_map Reals (if_passes (has_reals_op theories) (reals_named symbol)))
    (option_or (if theories.arrays then option_map Arrays (arrays_named symbol) else None)
    (option_map Bits (added_op theories symbol))))))

-- whether a name is a plain operator's, so that nothing new may have it
abbrev pub is_plain_operator : Theories → List ℕ → Bool
is_plain_operator theories symbol = is_some (plain_op theories symbol)

-- the indexed operator of a name
abbrev pub indexed_op : Theories → List ℕ → List IndexView → Result Op OpFault
indexed_op theories symbol indexes =
    if theories.ints && bytes_eq symbol (codes "divisible") then ok_or (divisible_by indexes) WrongIndex
    else if theories.bits
    then result_and_then (indexed_bits (has_conversions theories) symbol indexes) (λ op. Ok (Bits op))
    else Err Unknown

-- the operator of a symbol with indexes
abbrev pub op_by : Theories → List ℕ → List IndexView → Result Op OpFault
op_by theories symbol [] = ok_or (plain_op theories symbol) Unknown
op_by theories symbol (index ∷ indexes) = indexed_op theories symbol (index ∷ indexes)

-- ---- the form of each operator

-- whether a symbol is the operator's name
abbrev pub IsNameOf : Op → List ℕ → Type 0
IsNameOf (Core op) symbol = symbol ≡ core_name op
IsNameOf (Ints op) symbol = symbol ≡ ints_name op
IsNameOf (Reals op) symbol = symbol ≡ reals_name op
IsNameOf (Bits op) symbol = IsBitsName op symbol
IsNameOf (Arrays op) symbol = IsArraysName op symbol

abbrev pub indexes_of : Op → List IndexView
indexes_of (Ints (Divisible n)) = Number n ∷ []
indexes_of (Bits op) = bits_indexes op
indexes_of _ = []

-- the operator is of these theories, and its indexes are in range
abbrev pub IsOperatorOf : Theories → Op → Type 0
IsOperatorOf theories (Core op) = Unit {0}
IsOperatorOf theories (Ints (Divisible n)) = IsTrue theories.ints × (0 < n)
IsOperatorOf theories (Ints op) = IsTrue (has_ints_op theories op)
IsOperatorOf theories (Reals op) = IsTrue (has_reals_op theories op)
IsOperatorOf theories (Bits op) = IsTrue (has_bits_op theories op) × AreInRange op
IsOperatorOf theories (Arrays op) = IsTrue theories.arrays

-- the symbol with these indexes is this operator of the theories
abbrev pub IsOperatorBy : Theories → List ℕ → List IndexView → Op → Type 0
IsOperatorBy theories symbol indexes op =
    IsOperatorOf theories op × IsNameOf op symbol × (indexes ≡ indexes_of op)

-- ---- names, whatever the indexes are

-- the operator is one of a theory that there is, whether or not its indexes are in range
abbrev pub IsOfTheories : Theories → Op → Type 0
IsOfTheories theories (Core op) = Unit {0}
IsOfTheories theories (Ints op) = IsTrue (has_ints_op theories op)
IsOfTheories theories (Reals op) = IsTrue (has_reals_op theories op)
IsOfTheories theories (Bits op) = IsTrue (has_bits_op theories op)
IsOfTheories theories (Arrays op) = IsTrue theories.arrays

-- some operator of the theories without indexes, or with some, has this name
abbrev pub IsPlainName : Theories → List ℕ → Type 0
IsPlainName theories symbol =
    (op : Op) × IsOfTheories theories op × IsNameOf op symbol × (indexes_of op ≡ [])

abbrev pub IsIndexedName : Theories → List ℕ → Type 0
IsIndexedName theories symbol =
    (op : Op) × IsOfTheories theories op × IsNameOf op symbol × (indexes_of op ≢ [])

-- what a fault of an identifier says
abbrev pub text_of_op_fault : OpFault → List ℕ
text_of_op_fault Unknown = codes "unknown operator"
text_of_op_fault WrongIndex = codes "wrong indexes"
