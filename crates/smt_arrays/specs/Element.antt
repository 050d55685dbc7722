-- SMT-LIB 2.6, theory ArraysEx: elements, among them arrays.
use Rattle.std.specs.Prelude.{◌≡◌, ℕ, suc, ◌+◌, List, [], ◌∷◌, Bool, true, false, Option, Some, None}
use Rattle.std.proofs.Props.{props}
use Rattle.smt_theory.specs.Sort.{Sort, Array as ArraySort, command_of_sort}
use Rattle.smt_values.specs.Element as plain

-- an element: one that is no array; the array that has one element at each index; or an array with an element written
-- at an index
pub data Element : Type 0 where
  Plain : (e : plain.Element) → Element
  Filled : (element : Element) → Element
  Written : (array index element : Element) → Element
  deriving IsSet as set_of_elements

-- two proofs that elements are the same are one
pub element_set : IsSet Element
element_set = set_of_elements (Prim.hlevel props)

abbrev pub is_array : Element → Bool
is_array (Plain e) = false
is_array _ = true

-- the element, where it is no array; of an array this is of no interest
abbrev pub plain_of : Element → plain.Element
plain_of (Plain e) = e
plain_of _ = plain.Truth false

-- what is known of an element that is no array
abbrev pub known_plain : Option Element → Option plain.Element
known_plain (Some (Plain e)) = Some e
known_plain _ = None

-- ---- sorts

-- the sort is one of arrays, and this holds of the sort of the indexes and that of the elements
abbrev pub IsArraySort : Sort → (Sort → Sort → Type 0) → Type 0
IsArraySort (ArraySort index element) P = P index element
IsArraySort _ P = ⊥

abbrev pub IsOfSort : Sort → Element → Type 0
IsOfSort sort (Plain e) = plain.IsOfSort sort e
IsOfSort sort (Filled e) = IsArraySort sort (λ s t. IsOfSort t e)
IsOfSort sort (Written a i e) = IsArraySort sort (λ s t. IsOfSort sort a × IsOfSort s i × IsOfSort t e)

-- a universe of a sort: elements of the sort, and all of them unless the sort is declared
abbrev pub IsUniverse : Sort → (Element → Bool) → Type 0
IsUniverse sort universe =
    ((e : Element) → universe e ≡ true → IsOfSort sort e)
    × (command_of_sort sort ≡ None → (e : Element) → IsOfSort sort e → universe e ≡ true)

-- how deep arrays lie in the elements of a sort: 0 for those that are none
abbrev pub depth : Sort → ℕ
depth (ArraySort index element) = suc (depth index + depth element)
depth _ = 0

-- each element is of the sort at its place, and there are as many
abbrev pub AreOfSorts : List Sort → List Element → Type 0
AreOfSorts [] [] = Unit {0}
AreOfSorts (sort ∷ sorts) (e ∷ es) = IsOfSort sort e × AreOfSorts sorts es
AreOfSorts _ _ = ⊥

-- ---- what is known, and what is so

-- what is known of an element, if anything, is true of it
abbrev pub Agrees : Option Element → Element → Type 0
Agrees None e = Unit {0}
Agrees (Some known) e = e ≡ known

abbrev pub AllAgree : List (Option Element) → List Element → Type 0
AllAgree [] [] = Unit {0}
AllAgree (known ∷ knowns) (e ∷ es) = Agrees known e × AllAgree knowns es
AllAgree _ _ = ⊥
