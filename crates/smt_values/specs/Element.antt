-- SMT-LIB 2.6, theories Core, Reals_Ints and FixedSizeBitVectors: the elements of the sorts' domains, and what is
-- known of them.
use Rattle.std.specs.Prelude.{◌≡◌, ℕ, ℤ, List, [], ◌∷◌, Bool, Option, Some, None, option_map, map}
use Rattle.smt_bits.specs.BitVector.{BitVector, IsVector}
use Rattle.smt_theory.specs.Sort.{Sort}
use Rattle.smt_ratios.specs.Rational as rational
use Rattle.smt_ratios.specs.Rational.{IsRational}
use Rattle.smt_theory.specs.Sort.{Boolean as BoolSort, Int as IntSort, Real as RealSort}
use Rattle.smt_theory.specs.Sort.{Bits as BitsSort, Free}
use Rattle.smt_values.specs.declared.value.Value.{Value}
use Rattle.smt_values.specs.declared.value.Value.TheVariants.{Bool as BoolValue, Int as IntValue}
use Rattle.smt_values.specs.declared.value.Value.TheVariants.{Ratio as RatioValue, Bits as BitsValue}
use Rattle.smt_values.specs.declared.value.Value.TheVariants.{Abstract as AbstractValue}

-- an element: a truth value, an integer of any size, a rational number that is none, in lowest terms, a bit vector of
-- any width, or an element of a declared sort, which is a name. A real that is an integer is that integer.
pub data Element : Type 0 where
  Truth : (b : Bool) → Element
  Integer : (z : ℤ) → Element
  Fraction : (numerator : ℤ) → (denominator : ℕ) → Element
  Vector : (v : BitVector) → Element
  Abstract : (name : List ℕ) → Element

-- ---- sorts

abbrev pub IsOfSort : Sort → Element → Type 0
IsOfSort BoolSort (Truth b) = Unit {0}
IsOfSort IntSort (Integer z) = Unit {0}
-- the reals that the operators reach are the rational numbers
IsOfSort RealSort (Integer z) = Unit {0}
IsOfSort RealSort (Fraction n d) = IsRational (rational.Fraction n d)
IsOfSort (BitsSort m) (Vector v) = (v.width ≡ m) × IsVector v
-- the elements of each declared sort are all names
IsOfSort (Free n) (Abstract name) = Unit {0}
IsOfSort _ _ = ⊥

-- each element is of the sort at its place, and there are as many
abbrev pub AreOfSorts : List Sort → List Element → Type 0
AreOfSorts [] [] = Unit {0}
AreOfSorts (sort ∷ sorts) (e ∷ es) = IsOfSort sort e × AreOfSorts sorts es
AreOfSorts _ _ = ⊥

-- ---- values

-- the element that a value is
abbrev pub element_of : Value → Element
element_of (BoolValue b) = Truth b
element_of (IntValue z) = Integer z
element_of (RatioValue r) = Fraction r.numerator r.denominator
element_of (BitsValue v) = Vector v
element_of (AbstractValue name) = Abstract name

-- what an optional value says of an element: which it is, or nothing
abbrev pub known_element : Option Value → Option Element
known_element value = option_map element_of value

abbrev pub known_elements : List (Option Value) → List (Option Element)
known_elements values = map known_element values

-- what is known of the elements of declared sorts, by their names
abbrev pub Naming : Type 0
Naming = List ℕ → Option Element

-- ---- what is known, and what is so

-- what is known of an element, if anything, is true of it
abbrev pub Agrees : Option Element → Element → Type 0
Agrees None e = Unit {0}
Agrees (Some known) e = e ≡ known

-- what is known of each element is true of it, and there are as many
abbrev pub AllAgree : List (Option Element) → List Element → Type 0
AllAgree [] [] = Unit {0}
AllAgree (known ∷ knowns) (e ∷ es) = Agrees known e × AllAgree knowns es
AllAgree _ _ = ⊥
