-- Results are of the sorts that ranks give.
use Rattle.std.proofs.Common.{◌≡◌, inl, inr, ℕ, zero, suc, ◌≤◌, ℤ, Bool, true, false, cond, List, [], ◌∷◌, length}
use Rattle.std.proofs.Common.{refl, sym, subst, arith}
use Rattle.std.specs.List.{list_any}
use Rattle.std.specs.Prelude.{All, map, nat_lt}
use Rattle.smt_theory.specs.Operators.{is_on_arrays}
use Rattle.smt_theory.specs.Ranks.{HasRank}
use Rattle.smt_theory.specs.Shapes.{AreOf, HasShape, IsCount, IsNumber}
use Rattle.smt_theory.specs.declared.shapes.Arity.{Arity}
use Rattle.smt_theory.specs.declared.shapes.Arity.TheVariants.{One, OneOrMore, Several}
use Rattle.smt_theory.specs.declared.shapes.Shape.TheVariants.{Calculated, Uniform, OutOfRange}
use Rattle.smt_theory.specs.declared.op.Arithmetic.{Arithmetic}
use Rattle.smt_theory.specs.declared.op.Arithmetic.TheVariants.{Minus, Plus, Times, Div}
use Rattle.smt_theory.specs.declared.op.CoreOp.{CoreOp}
use Rattle.smt_theory.specs.declared.op.CoreOp.TheVariants.{True, False, Not, Implies, And, Or, Xor, Equal}
use Rattle.smt_theory.specs.declared.op.CoreOp.TheVariants.{Distinct, Ite}
use Rattle.smt_theory.specs.declared.op.IntsOp.{IntsOp}
use Rattle.smt_theory.specs.declared.op.IntsOp.TheVariants.{Arithmetic as Left, Comparison as Chain, Mod, Abs}
use Rattle.smt_theory.specs.declared.op.IntsOp.TheVariants.{Divisible}
use Rattle.smt_theory.specs.declared.op.Op.{Op}
use Rattle.smt_theory.specs.declared.op.Op.TheVariants.{Core, Ints, Reals, Bits, Arrays}
use Rattle.smt_theory.specs.Sort.{Sort}
use Rattle.smt_theory.specs.Sort.{Boolean, Int, Real}
use Rattle.smt_values.proofs.BitSortLemmas.{ResultsFit, bits}
use Rattle.smt_values.proofs.NumberSortLemmas.{NumbersFit, none_is_fraction, number_real, numbers_fit, reals_fit}
use Rattle.smt_values.specs.Element.{Element, Truth, IsOfSort, AreOfSorts}
use Rattle.smt_values.specs.Numbers.{is_fraction, number_of, operate_numbers}
use Rattle.smt_values.specs.Operations.{DivisionByZero, truth_of, integer_of, chosen, operate_core}
use Rattle.smt_values.specs.Operations.{operate_ints, operate}

-- a truth value is of a sort that is Bool
truth : (sort : Sort) (b : Bool) → sort ≡ Boolean → IsOfSort sort (Truth b)
truth sort b e = subst (λ s. IsOfSort s (Truth b)) (sym e) tt

choice : (sort : Sort) (es : List Element) → AreOfSorts (Boolean ∷ sort ∷ sort ∷ []) es
    → IsOfSort sort (chosen es)
choice sort [] h = absurd h
choice sort (c ∷ []) h = absurd h.1
choice sort (c ∷ a ∷ []) h = absurd h.1.1
choice sort (c ∷ a ∷ b ∷ d ∷ es) h = absurd h.1.1.1
choice sort (c ∷ a ∷ b ∷ []) h = by (truth_of c)
  where
    by : (t : Bool) → IsOfSort sort (cond t a b)
    by true = h.1.0
    by false = h.1.1.0

-- one of two numbers is a real
number_choice : (s t : Sort) (es : List Element) → IsNumber s → IsNumber t
    → AreOfSorts (Boolean ∷ s ∷ t ∷ []) es → IsOfSort Real (chosen es)
number_choice s t [] first second h = absurd h
number_choice s t (c ∷ []) first second h = absurd h.1
number_choice s t (c ∷ a ∷ []) first second h = absurd h.1.1
number_choice s t (c ∷ a ∷ b ∷ d ∷ es) first second h = absurd h.1.1.1
number_choice s t (c ∷ a ∷ b ∷ []) first second h = by (truth_of c)
  where
    by : (u : Bool) → IsOfSort Real (cond u a b)
    by true = number_real s a first h.1.0
    by false = number_real t b second h.1.1.0

core : (op : CoreOp) (sorts : List Sort) (sort : Sort) (es : List Element) → HasRank (Core op) sorts sort
    → AreOfSorts sorts es → IsOfSort sort (operate_core op es)
core True sorts sort es r h = truth sort _ r.1
core False sorts sort es r h = truth sort _ r.1
core Not sorts sort es r h = truth sort _ r.1
core Implies sorts sort es r h = truth sort _ r.1
core And sorts sort es r h = truth sort _ r.1
core Or sorts sort es r h = truth sort _ r.1
core Xor sorts sort es r h = truth sort _ r.1
core Equal sorts sort es r h = truth sort _ r.1
core Distinct sorts sort es r h = truth sort _ r.1
core Ite sorts sort es (inl r) h = choice sort es (subst (λ ss. AreOfSorts ss es) r h)
core Ite sorts sort es (inr r) h =
    subst (λ s. IsOfSort s (chosen es)) (sym r.4)
    (number_choice r.0 r.1 es r.3.0 r.3.1 (subst (λ ss. AreOfSorts ss es) r.2 h))

-- what is applied from the left gives an integer, of one argument or more
from_left : (t : DivisionByZero) (op : Arithmetic) (sorts : List Sort) (es : List Element) → 1 ≤ length sorts
    → AreOfSorts sorts es → IsOfSort Int (operate_ints t (Left op) (map integer_of es))
from_left t op [] es n h = absurd (none n)
  where
    none : 1 ≤ 0 → ⊥
    none n = omega arith
from_left t op (s ∷ sorts) [] n h = absurd h
from_left t Minus (s ∷ sorts) (e ∷ []) n h = tt
from_left t Minus (s ∷ sorts) (e ∷ f ∷ es) n h = tt
from_left t Plus (s ∷ sorts) (e ∷ es) n h = tt
from_left t Times (s ∷ sorts) (e ∷ es) n h = tt
from_left t Div (s ∷ sorts) (e ∷ es) n h = tt

integer : (sort : Sort) (e : Element) → sort ≡ Int → IsOfSort Int e → IsOfSort sort e
integer sort e s h = subst (λ s. IsOfSort s e) (sym s) h

of_one : (t : DivisionByZero) (es : List Element) → AreOfSorts (Int ∷ []) es
    → IsOfSort Int (operate_ints t Abs (map integer_of es))
of_one t [] h = absurd h
of_one t (e ∷ []) h = tt
of_one t (e ∷ f ∷ es) h = absurd h.1

of_two : (t : DivisionByZero) (es : List Element) → AreOfSorts (Int ∷ Int ∷ []) es
    → IsOfSort Int (operate_ints t Mod (map integer_of es))
of_two t [] h = absurd h
of_two t (e ∷ []) h = absurd h.1
of_two t (e ∷ f ∷ []) h = tt
of_two t (e ∷ f ∷ g ∷ es) h = absurd h.1.1

divisible : (t : DivisionByZero) (n : ℕ) (zs : List ℤ) → IsOfSort Boolean (operate_ints t (Divisible n) zs)
divisible t n [] = tt
divisible t n (a ∷ []) = tt
divisible t n (a ∷ b ∷ zs) = tt

-- of integers
module _ (t : DivisionByZero) (sorts : List Sort) (es : List Element) where
  integers_alone : (op : IntsOp) → All (λ s. s ≡ Int) sorts → AreOfSorts sorts es
      → IsOfSort Int (operate_ints t op (map integer_of es)) → IsOfSort Int (operate t (Ints op) es)
  integers_alone op each h result =
      subst (λ b. IsOfSort Int (cond b (operate_numbers op (map number_of es)) (operate_ints t op (map integer_of es))))
      (sym (none_is_fraction sorts es each h)) result

one_is : (sorts : List Sort) → sorts ≡ Int ∷ [] → All (λ s. s ≡ Int) sorts
one_is sorts is = subst (λ ss. All (λ s. s ≡ Int) ss) (sym is) one
  where
    one : All (λ s. s ≡ Int) (Int ∷ [])
    one zero d below = refl
    one (suc i) d below = absurd (omega arith)

two_are : (sorts : List Sort) → sorts ≡ Int ∷ Int ∷ [] → All (λ s. s ≡ Int) sorts
two_are sorts is = subst (λ ss. All (λ s. s ≡ Int) ss) (sym is) both
  where
    both : All (λ s. s ≡ Int) (Int ∷ Int ∷ [])
    both zero d below = refl
    both (suc zero) d below = refl
    both (suc (suc i)) d below = absurd (omega arith)

truth_by : (sort : Sort) (b x y : Bool) → sort ≡ Boolean → IsOfSort sort (cond b (Truth x) (Truth y))
truth_by sort true x y is = truth sort x is
truth_by sort false x y is = truth sort y is

module _ (fit : NumbersFit) (t : DivisionByZero) where
  -- of integers an integer, else a real
  calculated_fits : (op : Arithmetic) (arity : Arity) (sorts : List Sort) (sort : Sort) (es : List Element)
      → (AreOf arity Int sorts → (1 ≤ length sorts) × All (λ s. s ≡ Int) sorts)
      → (IsCount arity (length sorts) → 1 ≤ length sorts) → HasShape (Calculated arity) sorts sort
      → AreOfSorts sorts es → IsOfSort sort (operate t (Ints (Left op)) es)
  calculated_fits op arity sorts sort es ints some (inl r) h =
      integer sort _ r.1 (integers_alone t sorts es (Left op) (ints r.0).1 h
      (from_left t op sorts es (ints r.0).0 h))
  calculated_fits op arity sorts sort es ints some (inr r) h =
      subst (λ s. IsOfSort s (operate t (Ints (Left op)) es)) (sym r.2)
      (numbers_fit fit t op sorts es (some r.0.0) r.0.1 h)

  ints : (op : IntsOp) (sorts : List Sort) (sort : Sort) (es : List Element)
      → HasRank (Ints op) sorts sort → AreOfSorts sorts es → IsOfSort sort (operate t (Ints op) es)
  ints (Left Minus) sorts sort es r h = calculated_fits Minus OneOrMore sorts sort es (λ a. a) (λ n. n) r h
  ints (Left Plus) sorts sort es r h =
      calculated_fits Plus Several sorts sort es (λ a. (let two = a.0 in omega arith, a.1)) (λ n. omega arith) r h
  ints (Left Times) sorts sort es r h =
      calculated_fits Times Several sorts sort es (λ a. (let two = a.0 in omega arith, a.1)) (λ n. omega arith) r h
  ints (Left Div) sorts sort es r h =
      let two = r.0.0 in
      integer sort _ r.1 (integers_alone t sorts es (Left Div) r.0.1 h (from_left t Div sorts es (omega arith) h))
  ints (Chain op) sorts sort es r h = truth_by sort (list_any is_fraction es) _ _ r.1
  ints Mod sorts sort es r h =
      integer sort _ r.1 (integers_alone t sorts es Mod (two_are sorts r.0) h
      (of_two t es (subst (λ ss. AreOfSorts ss es) r.0 h)))
  ints Abs sorts sort es r h =
      integer sort _ r.1 (integers_alone t sorts es Abs (one_is sorts r.0) h
      (of_one t es (subst (λ ss. AreOfSorts ss es) r.0 h)))
  ints (Divisible n) sorts sort es r h = by (nat_lt 0 n) r
    where
      either : (b : Bool) → IsOfSort Boolean (cond b (operate_numbers (Divisible n) (map number_of es))
          (operate_ints t (Divisible n) (map integer_of es)))
      either true = tt
      either false = divisible t n (map integer_of es)

      by : (b : Bool) → HasShape (cond b (Uniform One Int Boolean) OutOfRange) sorts sort
          → IsOfSort sort (operate t (Ints (Divisible n)) es)
      by true r = subst (λ s. IsOfSort s (operate t (Ints (Divisible n)) es)) (sym r.1)
          (either (list_any is_fraction es))
      by false r = absurd r

pub result_of_sort : (fits : ResultsFit) (fit : NumbersFit) (t : DivisionByZero) (op : Op) (sorts : List Sort)
    (sort : Sort) (es : List Element) → is_on_arrays op ≡ false → HasRank op sorts sort → AreOfSorts sorts es
    → IsOfSort sort (operate t op es)
result_of_sort fits fit t (Core op) sorts sort es other r h = core op sorts sort es r h
result_of_sort fits fit t (Ints op) sorts sort es other r h = ints fit t op sorts sort es r h
result_of_sort fits fit t (Reals op) sorts sort es other r h = reals_fit fit t.ratios op sorts sort es r h
result_of_sort fits fit t (Bits op) sorts sort es other r h = bits fits op sorts sort es r h
result_of_sort fits fit t (Arrays op) sorts sort es other r h = cc
