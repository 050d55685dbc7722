-- The texts of values, sorts and names, as SMT-LIB 2.6 writes them (section 3.1; theories Core, Reals_Ints and
-- FixedSizeBitVectors).
use Rattle.std.specs.Prelude.{ℕ, zero, suc, ℤ, pos, negsuc, List, [], ◌∷◌, ◌++◌, ◌*◌, ◌/◌, ◌%◌, ◌^◌, ◌==◌, ◌≡◌, ◌⊎◌}
use Rattle.std.specs.Prelude.{Bool, Option, Some, None, codes, false, true, if◌then◌else◌, option_and_then, slice_get}
use Rattle.std.specs.Prelude.{unwrap_or}
use Rattle.std.specs.Fmt.{decimal, digit_glyph}
use Rattle.smt_bits.specs.BitVector.{BitVector}
use Rattle.smt_theory.specs.Sort.{Sort}
use Rattle.smt_theory.specs.Sort.{Boolean, Int, Real, Bits, Free, Array}
use Rattle.smt_values.specs.Element.{Element, Truth, Integer, Fraction, Vector, Abstract}
use Rattle.smt_values.specs.ElementNumbers.{array_place, declared_number}

-- an integer: of a negative one the minus sign is applied to its absolute value
abbrev pub text_of_integer : ℤ → List ℕ
text_of_integer (pos n) = decimal n
text_of_integer (negsuc n) = codes "(- " ++ (decimal (suc n) ++ codes ")")

-- a number with the mark that makes it a real
abbrev pub digits_of_real : ℕ → List ℕ
digits_of_real n = decimal n ++ codes ".0"

-- an integer as a real
abbrev pub text_of_real : ℤ → List ℕ
text_of_real (pos n) = digits_of_real n
text_of_real (negsuc n) = codes "(- " ++ (digits_of_real (suc n) ++ codes ")")

abbrev pub quotient_text : (top below : ℕ) → List ℕ
quotient_text top below = codes "(/ " ++ (decimal top ++ (codes " " ++ (decimal below ++ codes ")")))

-- a fraction: of a negative one the minus sign is applied to the quotient
abbrev pub text_of_fraction : ℤ → ℕ → List ℕ
text_of_fraction (pos n) d = quotient_text n d
text_of_fraction (negsuc n) d = codes "(- " ++ (quotient_text (suc n) d ++ codes ")")

-- the digits of n, each of so many bits, at the places below k, the highest first
abbrev pub digits_below : ℕ → ℕ → ℕ → List ℕ
digits_below zero size n = []
digits_below (suc k) size n = digit_glyph false (n / 2 ^ (k * size) % 2 ^ size) ∷ digits_below k size n

-- a bit vector: in hexadecimal where its width allows
abbrev pub text_of_bits : BitVector → List ℕ
text_of_bits v =
    if v.width % 4 == 0
    then codes "#x" ++ digits_below (v.width / 4) 4 v.number
    else codes "#b" ++ digits_below v.width 1 v.number

-- a name: as it stands, or between bars
abbrev pub IsSymbol : List ℕ → List ℕ → Type 0
IsSymbol name text = (text ≡ name) ⊎ (text ≡ 124 ∷ (name ++ 124 ∷ []))

-- the name that stands for a number among these, where the list of the number alone stands for the name
abbrev pub element_named : List (List ℕ) → List ℕ → List ℕ
element_named names number = unwrap_or (option_and_then (slice_get names) (declared_number number)) []

-- of a number that is an array's, or of an element's
abbrev pub IsTextOfNumber : List (List ℕ) → List ℕ → Option ℕ → List ℕ → Type 0
IsTextOfNumber names number (Some place) text = text ≡ codes "an array"
IsTextOfNumber names number None text = IsSymbol (element_named names number) text

-- a value, of the sort `Real` or of another; an element of a declared sort is known by its number among these names,
-- and of an array only that it is one
abbrev pub IsTextOf : List (List ℕ) → (is_real : Bool) → Element → List ℕ → Type 0
IsTextOf names is_real (Truth true) text = text ≡ codes "true"
IsTextOf names is_real (Truth false) text = text ≡ codes "false"
IsTextOf names is_real (Integer z) text = text ≡ (if is_real then text_of_real z else text_of_integer z)
IsTextOf names is_real (Fraction n d) text = text ≡ text_of_fraction n d
IsTextOf names is_real (Vector v) text = text ≡ text_of_bits v
IsTextOf names is_real (Abstract number) text = IsTextOfNumber names number (array_place number) text

-- a sort, and the name of a declared one; of a sort of arrays its own name
abbrev pub IsTextOfSort : Sort → (name : List ℕ) → List ℕ → Type 0
IsTextOfSort Boolean name text = text ≡ codes "Bool"
IsTextOfSort Int name text = text ≡ codes "Int"
IsTextOfSort Real name text = text ≡ codes "Real"
IsTextOfSort (Bits width) name text = text ≡ codes "(_ BitVec " ++ (decimal width ++ codes ")")
IsTextOfSort (Free command) name text = IsSymbol name text
IsTextOfSort (Array index element) name text = text ≡ codes "Array"
