-- The numbers of sorts.
use Rattle.std.specs.Prelude.{ℕ, ◌==◌, ◌+◌, ◌-◌, ◌*◌, ◌/◌, ◌%◌, ◌≤◌, ◌<◌, ◌^◌, nat_lt, if◌then◌else◌}
use Rattle.smt_theory.specs.Sort.{Sort, Boolean, Int, Real, Bits, Free, Array}

-- the sort of a number below those of sorts of arrays
abbrev pub plain_of_code : ℕ → Sort
plain_of_code code =
    if code == 0 then Boolean else if code == 1 then Int else if code == 2 then Real
    else if nat_lt code 131 then Bits (code - 2) else Free (code - 131)

-- two numbers of 31 bits
abbrev pub array_of_code : ℕ → Sort
array_of_code rest = Array (plain_of_code (rest / 2 ^ 31)) (plain_of_code (rest % 2 ^ 31))

-- three numbers of 20 bits
abbrev pub nested_of_code : ℕ → Sort
nested_of_code rest =
    Array (plain_of_code (rest / 2 ^ 40))
    (Array (plain_of_code (rest / 2 ^ 20 % 2 ^ 20)) (plain_of_code (rest % 2 ^ 20)))

-- the sort of a number
abbrev pub sort_of_code : ℕ → Sort
sort_of_code code =
    if nat_lt code (2 ^ 62) then plain_of_code code
    else if nat_lt code (2 ^ 63) then array_of_code (code - 2 ^ 62) else nested_of_code (code - 2 ^ 63)

-- the number of a sort
abbrev pub code_of : Sort → ℕ
code_of Boolean = 0
code_of Int = 1
code_of Real = 2
code_of (Bits width) = 2 + width
code_of (Free command) = 131 + command
code_of (Array i (Array j e)) = 2 ^ 63 + (code_of i * 2 ^ 40 + (code_of j * 2 ^ 20 + code_of e))
code_of (Array i e) = 2 ^ 62 + (code_of i * 2 ^ 31 + code_of e)

-- a sort of no arrays: its width and its command's number are within their limits
abbrev pub IsPlainSort : Sort → Type 0
IsPlainSort Boolean = Unit {0}
IsPlainSort Int = Unit {0}
IsPlainSort Real = Unit {0}
IsPlainSort (Bits width) = (1 ≤ width) × (width ≤ 128)
IsPlainSort (Free command) = command < 2 ^ 32
IsPlainSort (Array i e) = ⊥

-- such a sort whose number is below this limit
abbrev pub IsBelow : ℕ → Sort → Type 0
IsBelow limit sort = IsPlainSort sort × (code_of sort < limit)

-- a sort that there is
abbrev pub IsSort : Sort → Type 0
IsSort (Array i (Array j e)) = IsBelow (2 ^ 20) i × IsBelow (2 ^ 20) j × IsBelow (2 ^ 20) e
IsSort (Array i e) = IsBelow (2 ^ 31) i × IsBelow (2 ^ 31) e
IsSort sort = IsPlainSort sort
