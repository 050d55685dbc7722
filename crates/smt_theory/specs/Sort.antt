-- Sorts (SMT-LIB 2.6, theories Core, Reals_Ints, FixedSizeBitVectors and ArraysEx, and section 4.2.3).
use Rattle.std.specs.Prelude.{ℕ, Bool, true, false, ◌==◌, ◌-◌, ◌^◌, ◌&&◌, Option, Some, None, nat_lt}

-- a sort of the theories; `Free k` is the one that command k declares
pub data Sort : Type 0 where
  Boolean Int Real : Sort
  Bits : (width : ℕ) → Sort
  Free : (command : ℕ) → Sort
  Array : (index element : Sort) → Sort

-- whether two sorts are the same
abbrev pub is_same_sort : Sort → Sort → Bool
is_same_sort Boolean Boolean = true
is_same_sort Int Int = true
is_same_sort Real Real = true
is_same_sort (Bits m) (Bits n) = m == n
is_same_sort (Free m) (Free n) = m == n
is_same_sort (Array i e) (Array j f) = is_same_sort i j && is_same_sort e f
is_same_sort _ _ = false

-- whether a sort is one of numbers
abbrev pub is_number : Sort → Bool
is_number Int = true
is_number Real = true
is_number _ = false

-- the width of a bit vector's sort
abbrev pub width_of_sort : Sort → Option ℕ
width_of_sort (Bits width) = Some width
width_of_sort _ = None

-- the command that declares a sort
abbrev pub command_of_sort : Sort → Option ℕ
command_of_sort (Free command) = Some command
command_of_sort _ = None

-- the sort of the indexes of a sort of arrays, and that of the elements
abbrev pub array_of_sort : Sort → Option (Sort × Sort)
array_of_sort (Array index element) = Some (index, element)
array_of_sort _ = None

-- whether a sort is one of no arrays, and no command of this number or above declares it
abbrev pub is_declared_below : ℕ → Sort → Bool
is_declared_below limit (Free command) = nat_lt command limit
is_declared_below limit (Array index element) = false
is_declared_below limit _ = true

-- whether there are arrays by these indexes with these elements
abbrev pub has_arrays : Sort → Sort → Bool
has_arrays index (Array inner element) =
    is_declared_below (2 ^ 20 - 131) index
    && (is_declared_below (2 ^ 20 - 131) inner && is_declared_below (2 ^ 20 - 131) element)
has_arrays index element = is_declared_below (2 ^ 31 - 131) index && is_declared_below (2 ^ 31 - 131) element
