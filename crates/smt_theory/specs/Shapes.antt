-- SMT-LIB 2.6, theories Core, Reals_Ints, FixedSizeBitVectors and ArraysEx, and logic QF_BV: the shapes of operators,
-- each a way to take arguments. `HasShape` says what a shape is; `rank_by` computes from it. That no bit vector is
-- wider than 128, and that integers and reals mix, is this project's own.
use Rattle.std.specs.Prelude.{ℕ, ◌≡◌, ◌≢◌, ◌⊎◌, ◌<◌, ◌≤◌, ◌+◌, ◌-◌, ◌*◌, List, [], ◌∷◌, Bool, true, false, ◌&&◌}
use Rattle.std.specs.Prelude.{◌||◌, ◌==◌}
use Rattle.std.specs.Prelude.{Option, Some, None, option_map, nat_le, nat_lt, length, map, All, if◌then◌else◌}
use Rattle.std.specs.List.{list_all, sum}
use Rattle.std.specs.Bool.{then_some}
use Rattle.std.specs.Option.{option_and_then}
use lib.Pointwise.{pointwise}
use Rattle.smt_theory.specs.Sort.{Sort, Boolean, Int, Real, Bits, Array, is_number, is_same_sort}
use Rattle.smt_theory.specs.declared.shapes.Arity.{Arity}
use Rattle.smt_theory.specs.declared.shapes.Arity.TheVariants.{One, Two, OneOrMore, Several}
use Rattle.smt_theory.specs.declared.shapes.Made.{Made}
use Rattle.smt_theory.specs.declared.shapes.Made.TheVariants.{Same, Given, Slice, Times, Longer}
use Rattle.smt_theory.specs.declared.shapes.Shape.{Shape}
use Rattle.smt_theory.specs.declared.shapes.Shape.TheVariants.{Constant, Uniform, Calculated, Numbers, Alike}
use Rattle.smt_theory.specs.declared.shapes.Shape.TheVariants.{Choice, Vectors, Joined, Selected, Stored, Filled}
use Rattle.smt_theory.specs.declared.shapes.Shape.TheVariants.{OutOfRange}

-- ---- what a shape is

-- so many arguments, all of this sort
abbrev pub AreOf : Arity → Sort → List Sort → Type 0
AreOf One sort args = args ≡ sort ∷ []
AreOf Two sort args = args ≡ sort ∷ sort ∷ []
AreOf OneOrMore sort args = (1 ≤ length args) × All (λ arg. arg ≡ sort) args
AreOf Several sort args = (2 ≤ length args) × All (λ arg. arg ≡ sort) args

-- so many
abbrev pub IsCount : Arity → ℕ → Type 0
IsCount One n = n ≡ 1
IsCount Two n = n ≡ 2
IsCount OneOrMore n = 1 ≤ n
IsCount Several n = 2 ≤ n

abbrev pub IsNumber : Sort → Type 0
IsNumber sort = (sort ≡ Int) ⊎ (sort ≡ Real)

-- so many numbers
abbrev pub AreNumbers : Arity → List Sort → Type 0
AreNumbers arity args = IsCount arity (length args) × All IsNumber args

-- two numbers of two sorts
abbrev pub AreMixed : Sort → Sort → Type 0
AreMixed a b = IsNumber a × IsNumber b × (a ≢ b)

-- the sort of what is made of bit vectors of width m: a bit vector of that width, what is of a given sort, bits i down
-- to j, i copies one behind the other, or all bits and i more
abbrev pub IsMade : Made → ℕ → Sort → Type 0
IsMade Same m result = result ≡ Bits m
IsMade (Given sort) m result = result ≡ sort
IsMade (Slice i j) m result = (j ≤ i) × (i < m) × (result ≡ Bits (i - j + 1))
IsMade (Times i) m result = (1 ≤ i) × (i * m ≤ 128) × (result ≡ Bits (i * m))
IsMade (Longer i) m result = (m + i ≤ 128) × (result ≡ Bits (m + i))

-- an operator of this shape takes arguments of these sorts, and its result is of this sort
abbrev pub HasShape : Shape → List Sort → Sort → Type 0
-- no arguments
HasShape (Constant given) args result = (args ≡ []) × (result ≡ given)
-- so many arguments of one sort
HasShape (Uniform arity sort given) args result = AreOf arity sort args × (result ≡ given)
-- so many numbers: of integers an integer, else a real
HasShape (Calculated arity) args result =
    (AreOf arity Int args × (result ≡ Int)) ⊎ (AreNumbers arity args × ¬ AreOf arity Int args × (result ≡ Real))
-- so many numbers
HasShape (Numbers arity given) args result = AreNumbers arity args × (result ≡ given)
-- two or more arguments of any one sort, or numbers
HasShape Alike args result =
    (((sort : Sort) × AreOf Several sort args) ⊎ AreNumbers Several args) × (result ≡ Boolean)
-- a condition, and two arguments of any one sort, or two numbers
HasShape Choice args result =
    (args ≡ Boolean ∷ result ∷ result ∷ [])
    ⊎ ((a : Sort) × (b : Sort) × (args ≡ Boolean ∷ a ∷ b ∷ []) × AreMixed a b × (result ≡ Real))
-- so many bit vectors of any one width
HasShape (Vectors arity made) args result = (m : ℕ) × AreOf arity (Bits m) args × IsMade made m result
-- two or more bit vectors of any widths
HasShape Joined args result =
    (widths : List ℕ) × (args ≡ map Bits widths) × (2 ≤ length widths) × (sum widths ≤ 128)
    × (result ≡ Bits (sum widths))
-- an array and one of its indexes
HasShape Selected args result = (index : Sort) × (args ≡ Array index result ∷ index ∷ [])
-- an array, one of its indexes and an element
HasShape Stored args result =
    (index : Sort) × (element : Sort) × (args ≡ Array index element ∷ index ∷ element ∷ [])
    × (result ≡ Array index element)
-- an element of this sort of arrays
HasShape (Filled given) args result =
    (index : Sort) × (element : Sort) × (given ≡ Array index element) × (args ≡ element ∷ []) × (result ≡ given)
-- what holds a number out of range is no operator
HasShape OutOfRange args result = ⊥

-- ---- the sort of a result, computed

-- whether the arguments are of these sorts
abbrev pub are_exactly : List Sort → List Sort → Bool
are_exactly sorts args = pointwise is_same_sort args sorts

abbrev pub all_are : Sort → List Sort → Bool
all_are sort args = list_all (λ arg. is_same_sort arg sort) args

-- the least number of arguments, and whether there may be more
abbrev pub counts : Arity → ℕ × Bool
counts One = (1, false)
counts Two = (2, false)
counts OneOrMore = (1, true)
counts Several = (2, true)

abbrev pub takes_count : ℕ × Bool → ℕ → Bool
takes_count counts n = if counts.1 then nat_le counts.0 n else n == counts.0

-- whether these are so many arguments, all of this sort
abbrev pub are_of : Arity → Sort → List Sort → Bool
are_of arity sort args = takes_count (counts arity) (length args) && all_are sort args

abbrev pub are_alike : List Sort → Bool
are_alike [] = false
are_alike (arg ∷ args) = are_of Several arg (arg ∷ args)

-- whether these are so many numbers
abbrev pub are_numbers : Arity → List Sort → Bool
are_numbers arity args = takes_count (counts arity) (length args) && list_all is_number args

-- the sort of what is calculated of so many numbers
abbrev pub calculated_rank : Arity → List Sort → Option Sort
calculated_rank arity args = if are_of arity Int args then Some Int else then_some (are_numbers arity args) Real

-- the sort of one of two branches
abbrev pub branch_sort : Sort → Sort → Option Sort
branch_sort a b = if is_same_sort a b then Some a else then_some (is_number a && is_number b) Real

abbrev pub choice_rank : List Sort → Option Sort
choice_rank (condition ∷ chosen ∷ other ∷ []) =
    if is_same_sort condition Boolean then branch_sort chosen other else None
choice_rank _ = None

-- the width of so many bit vectors of one width
abbrev pub common_width : Arity → List Sort → Option ℕ
common_width arity (Bits m ∷ args) = if are_of arity (Bits m) (Bits m ∷ args) then Some m else None
common_width arity _ = None

-- a width, unless it is over the limit
abbrev pub within_limit : ℕ → Option ℕ
within_limit width = if nat_le width 128 then Some width else None

-- the width of these bit vectors behind so many bits
abbrev pub width_behind : ℕ → List Sort → Option ℕ
width_behind before [] = Some before
width_behind before (Bits m ∷ args) =
    option_and_then (λ width. width_behind width args) (within_limit (before + m))
width_behind before _ = None

-- the width of two or more bit vectors one behind the other
abbrev pub joined_width : List Sort → Option ℕ
joined_width (Bits m ∷ arg ∷ args) = width_behind m (arg ∷ args)
joined_width _ = None

abbrev pub slice_width : ℕ → ℕ → ℕ → Option ℕ
slice_width i j m = if nat_le j i && nat_lt i m then Some (i - j + 1) else None

abbrev pub times_width : ℕ → ℕ → Option ℕ
times_width i m = if nat_le 1 i then within_limit (i * m) else None

abbrev pub made_by : Made → ℕ → Option Sort
made_by Same m = Some (Bits m)
made_by (Given sort) m = Some sort
made_by (Slice i j) m = option_map Bits (slice_width i j m)
made_by (Times i) m = option_map Bits (times_width i m)
made_by (Longer i) m = option_map Bits (within_limit (m + i))

-- of an array and one of its indexes
abbrev pub selected_rank : List Sort → Option Sort
selected_rank (Array index element ∷ i ∷ []) = then_some (is_same_sort index i) element
selected_rank _ = None

abbrev pub stored_rank : List Sort → Option Sort
stored_rank (Array index element ∷ i ∷ e ∷ []) =
    then_some (is_same_sort index i && is_same_sort element e) (Array index element)
stored_rank _ = None

abbrev pub filled_rank : Sort → List Sort → Option Sort
filled_rank (Array index element) (e ∷ []) = then_some (is_same_sort element e) (Array index element)
filled_rank _ _ = None

abbrev pub rank_by : Shape → List Sort → Option Sort
rank_by (Constant given) args = then_some (are_exactly [] args) given
rank_by (Uniform arity sort given) args = then_some (are_of arity sort args) given
rank_by (Calculated arity) args = calculated_rank arity args
rank_by (Numbers arity given) args = then_some (are_numbers arity args) given
rank_by Alike args = then_some (are_alike args || are_numbers Several args) Boolean
rank_by Choice args = choice_rank args
rank_by (Vectors arity made) args = option_and_then (made_by made) (common_width arity args)
rank_by Joined args = option_map Bits (joined_width args)
rank_by Selected args = selected_rank args
rank_by Stored args = stored_rank args
rank_by (Filled given) args = filled_rank given args
rank_by OutOfRange args = None
