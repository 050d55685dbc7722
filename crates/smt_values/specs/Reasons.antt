-- Why an operator's result is what is known of it, or why it is open (this project's own rule). Places of
-- arguments count from 0.
use Rattle.std.specs.Prelude.{ℕ, ◌-◌, List, [], ◌∷◌, Bool, false, true, Option, Some, None, drop, length, position}
use Rattle.std.specs.Prelude.{is_none, is_some, option_map, pos, slice_get, take, unwrap_or}
use Rattle.std.specs.Prelude.{if◌then◌else◌}
use Rattle.std.specs.List.{list_any}
use Rattle.std.specs.Option.{option_or}
use Rattle.std.specs.Ordering.{int_eq}
use Rattle.smt_theory.specs.declared.op.Arithmetic.TheVariants.{Div}
use Rattle.smt_theory.specs.declared.op.CoreOp.{CoreOp}
use Rattle.smt_theory.specs.declared.op.CoreOp.TheVariants.{And, Implies, Ite, Not, Or}
use Rattle.smt_theory.specs.declared.op.IntsOp.{IntsOp}
use Rattle.smt_theory.specs.declared.op.IntsOp.TheVariants.{Arithmetic as Left, Mod}
use Rattle.smt_theory.specs.declared.op.Op.{Op}
use Rattle.smt_theory.specs.declared.op.Op.TheVariants.{Core, Ints, Reals, Bits, Arrays}
use Rattle.smt_theory.specs.declared.op.RealsOp.{RealsOp}
use Rattle.smt_theory.specs.declared.op.RealsOp.TheVariants.{Divide}
use Rattle.smt_values.specs.Element.{Element}
use Rattle.smt_values.specs.KnownOperations.{is_known, known_integer, known_step, known_truth}
use Rattle.smt_values.specs.declared.reasons.OpenReason.{OpenReason}
use Rattle.smt_values.specs.declared.reasons.OpenReason.TheVariants.{Argument, DivisionByZero, Range}
use Rattle.smt_values.specs.declared.reasons.Reason.{Reason}
use Rattle.smt_values.specs.declared.reasons.Reason.TheVariants.{All, Branch, Decided, Open}

-- ---- the argument that decides

abbrev pub premises : List (Option Element) → List (Option Element)
premises args = take (length args - 1) args

abbrev pub conclusion : List (Option Element) → Option Element
conclusion args = unwrap_or (slice_get args (length args - 1)) None

-- of an implication: the conclusion if it is true, or else the first false premise
abbrev pub implying : List (Option Element) → Option ℕ
implying args =
    if is_known true (conclusion args) then Some (length args - 1) else position (is_known false) (premises args)

abbrev pub deciding_core : CoreOp → List (Option Element) → Option ℕ
deciding_core And args = position (is_known false) args
deciding_core Or args = position (is_known true) args
deciding_core Implies args = implying args
deciding_core _ args = None

-- the argument that alone gives the result, whatever the others are
abbrev pub deciding : Op → List (Option Element) → Option ℕ
deciding (Core op) args = deciding_core op args
deciding (Ints op) args = None
deciding (Reals op) args = None
deciding (Bits op) args = None
deciding (Arrays op) args = None

abbrev pub taken_core : CoreOp → List (Option Element) → Option ℕ
taken_core Ite (condition ∷ a ∷ b ∷ []) = option_map (λ c. if c then 1 else 2) (known_truth condition)
taken_core _ args = None

-- the branch that a known condition chooses
abbrev pub taken : Op → List (Option Element) → Option ℕ
taken (Core op) args = taken_core op args
taken (Ints op) args = None
taken (Reals op) args = None
taken (Bits op) args = None
taken (Arrays op) args = None

-- ---- open results

-- the open argument: the branch that is chosen, or else the first that is open
abbrev pub lacking : Op → List (Option Element) → Option ℕ
lacking op args = option_or (taken op args) (position is_none args)

abbrev pub is_zero : Option Element → Bool
is_zero arg = unwrap_or (option_map (λ z. int_eq z (pos 0)) (known_integer arg)) false

abbrev pub is_divided_by_zero : IntsOp → List (Option Element) → Bool
is_divided_by_zero (Left Div) args = list_any is_zero (drop 1 args)
is_divided_by_zero Mod args = list_any is_zero (drop 1 args)
is_divided_by_zero _ args = false

abbrev pub is_ratio_by_zero : RealsOp → List (Option Element) → Bool
is_ratio_by_zero Divide args = list_any is_zero (drop 1 args)
is_ratio_by_zero _ args = false

-- whether the operator divides by an argument that is zero
abbrev pub divides_by_zero : Op → List (Option Element) → Bool
divides_by_zero (Core op) args = false
divides_by_zero (Ints op) args = is_divided_by_zero op args
divides_by_zero (Reals op) args = is_ratio_by_zero op args
divides_by_zero (Bits op) args = false
divides_by_zero (Arrays op) args = false

abbrev pub open_by : Option ℕ → Bool → OpenReason
open_by (Some i) by_zero = Argument i
open_by None true = DivisionByZero
open_by None false = Range

abbrev pub open_reason : Op → List (Option Element) → OpenReason
open_reason op args = open_by (lacking op args) (divides_by_zero op args)

-- ---- all

abbrev pub known_by : (decided branch : Option ℕ) → Reason
known_by (Some i) branch = Decided i
known_by None (Some i) = Branch i
known_by None None = All

-- why what is known of the operator's result is known, or why nothing is
abbrev pub reason : Op → List (Option Element) → Reason
reason op args =
    if is_some (known_step op args) then known_by (deciding op args) (taken op args)
    else Open (open_reason op args)

-- ---- connectives

abbrev pub is_core_connective : CoreOp → Bool
is_core_connective Not = true
is_core_connective And = true
is_core_connective Or = true
is_core_connective Implies = true
is_core_connective Ite = true
is_core_connective _ = false

-- the operators on truth values into whose arguments a reason goes on
abbrev pub is_connective : Op → Bool
is_connective (Core op) = is_core_connective op
is_connective (Ints op) = false
is_connective (Reals op) = false
is_connective (Bits op) = false
is_connective (Arrays op) = false
