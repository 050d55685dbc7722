-- SMT-LIB 2.6, theory ArraysEx: what an array has at an index, and when two arrays are one: they are extensional.
use Rattle.std.specs.Prelude.{ℕ, zero, suc, ◌^◌, List, [], ◌∷◌, ◌++◌, Bool, true, false, ◌&&◌, ◌||◌, if◌then◌else◌}
use Rattle.std.specs.List.{list_all, list_any}
use Rattle.smt_bits.specs.BitVector.{vector}
use Rattle.smt_values.specs.Element as plain
use Rattle.smt_values.specs.Operations as plain_operations
use Rattle.smt_arrays.specs.Element.{Element, Plain, Filled, Written, is_array}

-- whether two elements are the same and no arrays
abbrev pub is_same_plain : Element → Element → Bool
is_same_plain (Plain a) (Plain b) = plain_operations.is_same a b
is_same_plain _ _ = false

-- what an array has at an index: of two elements written there the later
abbrev pub read : Element → Element → Element
read (Written a j e) i = if is_same_plain i j then e else read a i
read (Filled e) i = e
read (Plain e) i = Plain e

-- the indexes that are written, the last one first
abbrev pub indexes : Element → List Element
indexes (Written a i e) = i ∷ indexes a
indexes _ = []

-- what an array has at each other index
abbrev pub default_of : Element → Element
default_of (Written a i e) = default_of a
default_of (Filled e) = e
default_of (Plain e) = Plain e

abbrev pub is_among : Element → List Element → Bool
is_among i js = list_any (is_same_plain i) js

-- whether the vectors of so many bits whose numbers are below n are all among these
abbrev pub has_vectors : ℕ → ℕ → List Element → Bool
has_vectors bits zero js = true
has_vectors bits (suc n) js = is_among (Plain (plain.Vector (vector bits n))) js && has_vectors bits n js

-- whether these are all elements of a sort: both truth values, or all vectors of a width
abbrev pub are_all : List Element → Bool
are_all [] = false
are_all (Plain (plain.Truth b) ∷ js) =
    is_among (Plain (plain.Truth true)) (Plain (plain.Truth b) ∷ js)
    && is_among (Plain (plain.Truth false)) (Plain (plain.Truth b) ∷ js)
are_all (Plain (plain.Vector v) ∷ js) = has_vectors v.width (2 ^ v.width) (Plain (plain.Vector v) ∷ js)
are_all _ = false

-- the indexes at which one of two arrays is written
abbrev pub both_indexes : Element → Element → List Element
both_indexes a b = indexes a ++ indexes b

-- two arrays are the same where they are at each index that is written in one, and at all others, unless there are none
abbrev pub are_alike : (Element → Element → Bool) → Element → Element → Bool
are_alike same a b =
    list_all (λ i. same (read a i) (read b i)) (both_indexes a b)
    && (are_all (both_indexes a b) || same (default_of a) (default_of b))

abbrev pub is_same_by : (Element → Element → Bool) → Element → Element → Bool
is_same_by same a b = if is_array a && is_array b then are_alike same a b else is_same_plain a b

-- whether two elements are the same. (The elements of an array may be arrays, and theirs are none.)
abbrev pub is_same : Element → Element → Bool
is_same a b = is_same_by (is_same_by is_same_plain) a b
