-- Words on the elements of arrays, each by a number. No part of any claim.
use Rattle.std.specs.Prelude.{◌≡◌, ◌<◌, ◌^◌, ◌*◌, ◌+◌, ◌++◌, ℕ, suc, ℤ, pos, negsuc, List, Option, Some, None}
use Rattle.std.specs.Prelude.{false, get_or, length}
use Rattle.std.specs.Int.{from_bool}
use Rattle.smt_values.specs.Element as plain
use Rattle.smt_values.specs.ElementNumbers.{array_place, declared_number}
use Rattle.smt_values.specs.declared.value.Value.{Value}
use Rattle.smt_values.specs.declared.value.Value.TheVariants.{Bool as BoolValue}
use Rattle.smt_arrays.specs.declared.elements.Key.{Key}

-- ---- values, each by its number

-- the value of a number among these
abbrev pub value_at : List Key → ℕ → Value
value_at elements number = (get_or elements number (record { value = BoolValue false })).value

-- no value has two numbers
abbrev pub AreDistinct : List Key → Type 0
AreDistinct elements =
    (j k : ℕ) → j < length elements → k < length elements → value_at elements j ≡ value_at elements k → j ≡ k

-- the numbers of the first stay
abbrev pub Extends : List Key → List Key → Type 0
Extends old new = (more : List Key) × (new ≡ old ++ more)

-- ---- numbers of elements of one kind

-- a natural number for each integer
abbrev pub zigzag : ℤ → ℕ
zigzag (pos n) = n * 2
zigzag (negsuc n) = suc (n * 2)

-- a number that no other index of a kind has
abbrev pub number_of : plain.Element → ℕ
number_of (plain.Truth b) = from_bool b
number_of (plain.Integer z) = zigzag z
number_of (plain.Vector v) = v.number
number_of _ = 0

-- ---- hashes

abbrev pub number_of_name : Option ℕ → Option ℕ → ℕ
number_of_name declared (Some place) = 2 ^ 32 + place
number_of_name (Some number) None = number
number_of_name None None = 0

-- two numbers that tell most elements apart
abbrev pub first_number : plain.Element → ℕ
first_number (plain.Fraction n d) = zigzag n
first_number (plain.Abstract name) = number_of_name (declared_number name) (array_place name)
first_number e = number_of e

abbrev pub second_number : plain.Element → ℕ
second_number (plain.Fraction n d) = d
second_number (plain.Vector v) = v.width
second_number e = 0
