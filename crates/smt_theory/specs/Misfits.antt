-- Why an operator has no rank for the sorts of its arguments: their number, or the first of them that does not fit, by
-- a rule of this project where more than one could be changed: each fits the operator, and the first ones.
use Rattle.std.specs.Prelude.{ℕ, List, [], ◌∷◌, Bool, true, false, not, Option, Some, None, length, option_map}
use Rattle.std.specs.Prelude.{is_some, if◌then◌else◌}
use Rattle.std.specs.List.{list_any, position}
use Rattle.std.specs.Option.{option_or}
use Rattle.smt_theory.specs.Ranks.{shape_of}
use Rattle.smt_theory.specs.Shapes.{branch_sort, counts, rank_by, takes_count}
use Rattle.smt_theory.specs.Sort.{Sort, Boolean, Int, Real, Bits, array_of_sort, is_number, is_same_sort}
use Rattle.smt_theory.specs.declared.misfits.RankFlaw.{RankFlaw}
use Rattle.smt_theory.specs.declared.misfits.RankFlaw.TheVariants.{Argument, Count, Widths}
use Rattle.smt_theory.specs.declared.misfits.Wanted.{Wanted}
use Rattle.smt_theory.specs.declared.misfits.Wanted.TheVariants.{Only, AnyBits, AnyArray}
use Rattle.smt_theory.specs.declared.op.Op.{Op}
use Rattle.smt_theory.specs.declared.shapes.Arity.TheVariants.{Several}
use Rattle.smt_theory.specs.declared.shapes.Shape.{Shape}
use Rattle.smt_theory.specs.declared.shapes.Shape.TheVariants.{Constant, Uniform, Calculated, Numbers, Alike}
use Rattle.smt_theory.specs.declared.shapes.Shape.TheVariants.{Choice, Vectors, Joined, Selected, Stored, Filled}
use Rattle.smt_theory.specs.declared.shapes.Shape.TheVariants.{OutOfRange}

-- ---- numbers of arguments

-- the least number of arguments that an operator of this shape takes, and whether it takes more
abbrev pub counts_of : Shape → ℕ × Bool
counts_of (Constant given) = (0, false)
counts_of (Uniform arity sort given) = counts arity
counts_of (Calculated arity) = counts arity
counts_of (Numbers arity given) = counts arity
counts_of Alike = counts Several
counts_of Choice = (3, false)
counts_of (Vectors arity made) = counts arity
counts_of Joined = counts Several
counts_of Selected = (2, false)
counts_of Stored = (3, false)
counts_of (Filled given) = (1, false)
counts_of OutOfRange = (0, true)

-- ---- arguments

-- an argument at a place, where one of these sorts is wanted
abbrev pub argument : Wanted → ℕ → RankFlaw
argument wanted place = Argument place wanted

-- the first argument of another sort
abbrev pub first_other : Sort → List Sort → Option RankFlaw
first_other sort args = option_map (argument (Only sort)) (position (λ arg. not (is_same_sort arg sort)) args)

-- the first that is no number, where one of this sort would do
abbrev pub first_no_number : Sort → List Sort → Option RankFlaw
first_no_number sort args = option_map (argument (Only sort)) (position (λ arg. not (is_number arg)) args)

-- the sort of a number that would do among these: real where there is one
abbrev pub number_wanted : List Sort → Sort
number_wanted args = if list_any (λ arg. is_same_sort arg Real) args then Real else Int

-- the first of another sort than the first of all; numbers go with numbers
abbrev pub first_other_than_first : List Sort → Option RankFlaw
first_other_than_first [] = None
first_other_than_first (arg ∷ args) =
    if is_number arg then first_no_number arg (arg ∷ args) else first_other arg (arg ∷ args)

-- the condition of a choice, or else its last argument
abbrev pub misfit_of_choice : (condition chosen other : Sort) → Option RankFlaw
misfit_of_choice condition chosen other =
    if not (is_same_sort condition Boolean) then Some (Argument 0 (Only Boolean))
    else if not (is_some (branch_sort chosen other)) then Some (Argument 2 (Only chosen)) else None

abbrev pub misfit_in_choice : List Sort → Option RankFlaw
misfit_in_choice (condition ∷ chosen ∷ other ∷ []) = misfit_of_choice condition chosen other
misfit_in_choice _ = None

abbrev pub is_bits : Sort → Bool
is_bits (Bits m) = true
is_bits _ = false

-- the first that is no bit vector
abbrev pub first_scalar : List Sort → Option RankFlaw
first_scalar args = option_map (argument AnyBits) (position (λ arg. not (is_bits arg)) args)

-- the first, if it is no bit vector, or else the first of another width
abbrev pub first_other_width : List Sort → Option RankFlaw
first_other_width [] = None
first_other_width (arg ∷ args) =
    if is_bits arg then first_other arg (arg ∷ args) else Some (Argument 0 AnyBits)

-- the argument at a place, if it is of another sort
abbrev pub other_at : ℕ → (wanted sort : Sort) → Option RankFlaw
other_at place wanted sort = if is_same_sort wanted sort then None else Some (Argument place (Only wanted))

-- an index, or else an element, of another sort than the array's
abbrev pub misfit_behind_array : Option (Sort × Sort) → List Sort → Option RankFlaw
misfit_behind_array (Some own) (index ∷ []) = other_at 1 own.0 index
misfit_behind_array (Some own) (index ∷ element ∷ []) =
    option_or (other_at 1 own.0 index) (other_at 2 own.1 element)
misfit_behind_array _ _ = Some (Argument 0 AnyArray)

-- what is no array, or what does not fit it
abbrev pub misfit_with_array : List Sort → Option RankFlaw
misfit_with_array [] = None
misfit_with_array (sort ∷ rest) = misfit_behind_array (array_of_sort sort) rest

-- an element of another sort than the array's
abbrev pub misfit_in_filled : Option (Sort × Sort) → List Sort → Option RankFlaw
misfit_in_filled (Some own) (element ∷ []) = other_at 0 own.1 element
misfit_in_filled _ _ = None

-- the first argument that does not fit
abbrev pub argument_misfit : Shape → List Sort → Option RankFlaw
argument_misfit (Constant given) args = None
argument_misfit (Uniform arity sort given) args = first_other sort args
argument_misfit (Calculated arity) args = first_no_number (number_wanted args) args
argument_misfit (Numbers arity given) args = first_no_number (number_wanted args) args
argument_misfit Alike args = first_other_than_first args
argument_misfit Choice args = misfit_in_choice args
argument_misfit (Vectors arity made) args = first_other_width args
argument_misfit Joined args = first_scalar args
argument_misfit Selected args = misfit_with_array args
argument_misfit Stored args = misfit_with_array args
argument_misfit (Filled given) args = misfit_in_filled (array_of_sort given) args
argument_misfit OutOfRange args = None

-- ---- what is told

-- where the number and each argument fit, only the widths and the indexes can be wrong
abbrev pub unless_ranked : Option Sort → Option RankFlaw
unless_ranked None = Some Widths
unless_ranked (Some sort) = None

abbrev pub misfit_by : Shape → List Sort → Option RankFlaw
misfit_by shape args =
    if takes_count (counts_of shape) (length args)
    then option_or (argument_misfit shape args) (unless_ranked (rank_by shape args))
    else Some (Count (counts_of shape).0)

abbrev pub misfit_of : Op → List Sort → Option RankFlaw
misfit_of op args = misfit_by (shape_of op) args
