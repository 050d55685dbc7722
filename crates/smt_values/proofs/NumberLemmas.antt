-- Of integers the operators on numbers make what the operators on integers make, so what holds of numbers holds
-- whichever way a result is calculated.
use Rattle.std.proofs.Common.{◌≡◌, ◌≢◌, ℤ, ◌+ℤ◌, ◌-ℤ◌, ◌*ℤ◌, neg_ℤ, Bool, true, false, cond, not, ◌&&◌, ◌||◌}
use Rattle.std.proofs.Common.{List, [], ◌∷◌, refl, sym, ap, ◌∙◌, int_le, int_lt, rules}
use Rattle.std.specs.Prelude.{map, fold}
use Rattle.std.specs.List.{list_any}
use Rattle.smt_ratios.specs.Operators.{difference, is_less, negative, product, sum}
use Rattle.smt_ratios.specs.Rational as rational
use Rattle.smt_ratios.specs.Rational.{Rational}
use Rattle.smt_theory.specs.declared.op.Arithmetic.{Arithmetic}
use Rattle.smt_theory.specs.declared.op.Arithmetic.TheVariants.{Minus, Plus, Times, Div}
use Rattle.smt_theory.specs.declared.op.Comparison.{Comparison}
use Rattle.smt_theory.specs.declared.op.Comparison.TheVariants.{AtMost, Less, AtLeast, Greater}
use Rattle.smt_theory.specs.declared.op.CoreOp.TheVariants.{And}
use Rattle.smt_theory.specs.declared.op.IntsOp.{IntsOp}
use Rattle.smt_theory.specs.declared.op.IntsOp.TheVariants.{Arithmetic as Left, Comparison as Chain}
use Rattle.smt_theory.specs.declared.op.Op.TheVariants.{Core, Ints}
use Rattle.smt_values.specs.Element.{Element, Truth, Integer, Fraction, Vector, Abstract}
use Rattle.smt_values.specs.Lists.{are_chained}
use Rattle.smt_values.specs.Numbers.{calculated, element_of_number, is_fraction, number_of, operate_numbers, orders}
use Rattle.smt_values.specs.Operations.{DivisionByZero, arithmetic, compares, integer_of, operate, operate_ints}

abbrev pub int : ℤ → Rational
int z = rational.Integer z

-- ---- integers

pub record IntegersAlike : Type 0 where
  pub sums : (x y : ℤ) → sum (int x) (int y) ≡ int (x +ℤ y)
  pub differences : (x y : ℤ) → difference (int x) (int y) ≡ int (x -ℤ y)
  pub products : (x y : ℤ) → product (int x) (int y) ≡ int (x *ℤ y)
  pub negatives : (x : ℤ) → negative (int x) ≡ int (neg_ℤ x)
  pub order : (x y : ℤ) → is_less (int x) (int y) ≡ int_lt x y

opposite : (b c : Bool) → c ≡ not b → b ≡ not c
opposite true c e = ap not (sym e)
opposite false c e = ap not (sym e)

pub at_most : (x y : ℤ) → int_le x y ≡ not (int_lt y x)
at_most x y = opposite (int_le x y) (int_lt y x) (search rules)

module _ (alike : IntegersAlike) (z : DivisionByZero) where
  one_alike : (op : Arithmetic) (x y : ℤ) → op ≢ Div → calculated op (int x) (int y) ≡ int (arithmetic z op x y)
  one_alike Minus x y other = alike.differences x y
  one_alike Plus x y other = alike.sums x y
  one_alike Times x y other = alike.products x y
  one_alike Div x y other = absurd (other refl)

  fold_alike : (op : Arithmetic) (x : ℤ) (zs : List ℤ) → op ≢ Div
      → fold (calculated op) (int x) (map int zs) ≡ int (fold (arithmetic z op) x zs)
  fold_alike op x [] other = refl
  fold_alike op x (y ∷ zs) other =
      ap (λ t. fold (calculated op) t (map int zs)) (one_alike op x y other)
      ∙ fold_alike op (arithmetic z op x y) zs other

  ints_many : (op : Arithmetic) (x y : ℤ) (zs : List ℤ)
      → operate_ints z (Left op) (x ∷ y ∷ zs) ≡ Integer (fold (arithmetic z op) x (y ∷ zs))
  ints_many Minus x y zs = refl
  ints_many Plus x y zs = refl
  ints_many Times x y zs = refl
  ints_many Div x y zs = refl

  numbers_many : (op : Arithmetic) (a b : Rational) (rs : List Rational)
      → operate_numbers (Left op) (a ∷ b ∷ rs) ≡ element_of_number (fold (calculated op) a (b ∷ rs))
  numbers_many Minus a b rs = refl
  numbers_many Plus a b rs = refl
  numbers_many Times a b rs = refl
  numbers_many Div a b rs = refl

  pub calculated_alike : (op : Arithmetic) (x y : ℤ) (zs : List ℤ) → op ≢ Div
      → operate_numbers (Left op) (map int (x ∷ y ∷ zs)) ≡ operate_ints z (Left op) (x ∷ y ∷ zs)
  calculated_alike op x y zs other =
      numbers_many op (int x) (int y) (map int zs) ∙ ap element_of_number (fold_alike op x (y ∷ zs) other)
      ∙ sym (ints_many op x y zs)

  pub negative_alike : (x : ℤ) → operate_numbers (Left Minus) (int x ∷ []) ≡ operate_ints z (Left Minus) (x ∷ [])
  negative_alike x = ap element_of_number (alike.negatives x)

  orders_alike : (op : Comparison) (x y : ℤ) → orders op (int x) (int y) ≡ compares op x y
  orders_alike AtMost x y = ap not (alike.order y x) ∙ sym (at_most x y)
  orders_alike Less x y = alike.order x y
  orders_alike AtLeast x y = ap not (alike.order x y) ∙ sym (at_most y x)
  orders_alike Greater x y = alike.order y x

  chain_alike : (op : Comparison) (zs : List ℤ)
      → are_chained (orders op) (map int zs) ≡ are_chained (compares op) zs
  chain_alike op [] = refl
  chain_alike op (x ∷ []) = refl
  chain_alike op (x ∷ y ∷ zs) =
      ap (λ b. b && are_chained (orders op) (map int (y ∷ zs))) (orders_alike op x y)
      ∙ ap (λ b. compares op x y && b) (chain_alike op (y ∷ zs))

  pub compared_alike : (op : Comparison) (zs : List ℤ)
      → operate_numbers (Chain op) (map int zs) ≡ operate_ints z (Chain op) zs
  compared_alike op zs = ap Truth (chain_alike op zs)

-- ---- elements

pub first_no : (a b : Bool) → (a || b) ≡ false → a ≡ false
first_no true b h = cc
first_no false b h = refl

pub others_no : (a b : Bool) → (a || b) ≡ false → b ≡ false
others_no true b h = cc
others_no false b h = h

-- what is no fraction is an integer, or of no interest
integer_is : (e : Element) → is_fraction e ≡ false → number_of e ≡ int (integer_of e)
integer_is (Integer z) h = refl
integer_is (Fraction n d) h = cc
integer_is (Truth b) h = refl
integer_is (Vector v) h = refl
integer_is (Abstract name) h = refl

pub integers_are : (es : List Element) → list_any is_fraction es ≡ false
    → map number_of es ≡ map int (map integer_of es)
integers_are [] h = refl
integers_are (e ∷ es) h =
    (λ i. integer_is e (first_no (is_fraction e) (list_any is_fraction es) h) i
    ∷ integers_are es (others_no (is_fraction e) (list_any is_fraction es) h) i)

-- by whichever way it is calculated
by_either : (z : DivisionByZero) (op : IntsOp) (es : List Element) (e : Element)
    → (list_any is_fraction es ≡ true → operate_numbers op (map number_of es) ≡ e)
    → (list_any is_fraction es ≡ false → operate_ints z op (map integer_of es) ≡ e)
    → operate z (Ints op) es ≡ e
by_either z op es e some none = by (list_any is_fraction es) some none
  where
    by : (b : Bool) → (b ≡ true → operate_numbers op (map number_of es) ≡ e)
        → (b ≡ false → operate_ints z op (map integer_of es) ≡ e)
        → cond b (operate_numbers op (map number_of es)) (operate_ints z op (map integer_of es)) ≡ e
    by true some none = some refl
    by false some none = none refl

pub record OperatorsAlike (z : DivisionByZero) : Type 0 where
  pub calculated_as : (op : Arithmetic) (x y : ℤ) (zs : List ℤ) → op ≢ Div
      → operate_numbers (Left op) (map int (x ∷ y ∷ zs)) ≡ operate_ints z (Left op) (x ∷ y ∷ zs)
  pub compared_as : (op : Comparison) (zs : List ℤ)
      → operate_numbers (Chain op) (map int zs) ≡ operate_ints z (Chain op) zs

module _ (z : DivisionByZero) (alike : OperatorsAlike z) where
  -- of two arguments or more
  pub by_numbers : (op : Arithmetic) (a b : Element) (es : List Element) → op ≢ Div
      → operate z (Ints (Left op)) (a ∷ b ∷ es) ≡ operate_numbers (Left op) (map number_of (a ∷ b ∷ es))
  by_numbers op a b es other =
      by_either z (Left op) (a ∷ b ∷ es) (operate_numbers (Left op) (map number_of (a ∷ b ∷ es))) (λ some. refl)
      (λ none. sym (alike.calculated_as op (integer_of a) (integer_of b) (map integer_of es) other)
      ∙ ap (operate_numbers (Left op)) (sym (integers_are (a ∷ b ∷ es) none)))

  pub by_orders : (op : Comparison) (es : List Element)
      → operate z (Ints (Chain op)) es ≡ Truth (are_chained (orders op) (map number_of es))
  by_orders op es =
      by_either z (Chain op) es (operate_numbers (Chain op) (map number_of es)) (λ some. refl)
      (λ none. sym (alike.compared_as op (map integer_of es))
      ∙ ap (operate_numbers (Chain op)) (sym (integers_are es none)))

  pub by_integers : (op : IntsOp) (es : List Element) → list_any is_fraction es ≡ false
      → operate z (Ints op) es ≡ operate_ints z op (map integer_of es)
  by_integers op es none =
      ap (λ b. cond b (operate_numbers op (map number_of es)) (operate_ints z op (map integer_of es))) none

  pub back : (r : Rational) → number_of (element_of_number r) ≡ r
  back (rational.Integer z) = refl
  back (rational.Fraction n d) = refl

  -- ---- what is combined from the left

  combined_numbers : (op : Arithmetic) (a b c : Element) (rest : List Element) → op ≢ Div
      → operate z (Ints (Left op)) (a ∷ b ∷ c ∷ rest)
      ≡ operate z (Ints (Left op)) (operate z (Ints (Left op)) (a ∷ b ∷ []) ∷ c ∷ rest)
  combined_numbers op a b c rest other =
      by_numbers op a b (c ∷ rest) other
      ∙ many op (number_of a) (number_of b) (number_of c) (map number_of rest)
      ∙ ap (λ r. operate_numbers (Left op) (r ∷ map number_of (c ∷ rest)))
      (sym (back (calculated op (number_of a) (number_of b)))
      ∙ ap number_of (sym (two op (number_of a) (number_of b)) ∙ sym (by_numbers op a b [] other)))
      ∙ sym (by_numbers op (operate z (Ints (Left op)) (a ∷ b ∷ [])) c rest other)
    where
      many : (op : Arithmetic) (a b c : Rational) (rs : List Rational)
          → operate_numbers (Left op) (a ∷ b ∷ c ∷ rs) ≡ operate_numbers (Left op) (calculated op a b ∷ c ∷ rs)
      many Minus a b c rs = refl
      many Plus a b c rs = refl
      many Times a b c rs = refl
      many Div a b c rs = refl

      two : (op : Arithmetic) (a b : Rational)
          → operate_numbers (Left op) (a ∷ b ∷ []) ≡ element_of_number (calculated op a b)
      two Minus a b = refl
      two Plus a b = refl
      two Times a b = refl
      two Div a b = refl

  combined_integers : (a b c : Element) (rest : List Element) → list_any is_fraction (a ∷ b ∷ c ∷ rest) ≡ false
      → operate z (Ints (Left Div)) (a ∷ b ∷ c ∷ rest)
      ≡ operate z (Ints (Left Div)) (operate z (Ints (Left Div)) (a ∷ b ∷ []) ∷ c ∷ rest)
  combined_integers a b c rest none =
      let after : list_any is_fraction (c ∷ rest) ≡ false =
      others_no (is_fraction b) _ (others_no (is_fraction a) _ none) in
      let first : is_fraction a ≡ false = first_no (is_fraction a) _ none in
      let second : is_fraction b ≡ false = first_no (is_fraction b) _ (others_no (is_fraction a) _ none) in
      let both : list_any is_fraction (a ∷ b ∷ []) ≡ false =
      (λ i. first i || (second i || false)) in
      by_integers (Left Div) (a ∷ b ∷ c ∷ rest) none
      ∙ sym (ap (λ e. operate z (Ints (Left Div)) (e ∷ c ∷ rest)) (by_integers (Left Div) (a ∷ b ∷ []) both)
      ∙ by_integers (Left Div) (Integer (arithmetic z Div (integer_of a) (integer_of b)) ∷ c ∷ rest) after)

  pub combined_from_left : (op : Arithmetic) (a b c : Element) (rest : List Element)
      → (op ≡ Div → list_any is_fraction (a ∷ b ∷ c ∷ rest) ≡ false)
      → operate z (Ints (Left op)) (a ∷ b ∷ c ∷ rest)
      ≡ operate z (Ints (Left op)) (operate z (Ints (Left op)) (a ∷ b ∷ []) ∷ c ∷ rest)
  combined_from_left Minus a b c rest none = combined_numbers Minus a b c rest (λ e. cc)
  combined_from_left Plus a b c rest none = combined_numbers Plus a b c rest (λ e. cc)
  combined_from_left Times a b c rest none = combined_numbers Times a b c rest (λ e. cc)
  combined_from_left Div a b c rest none = combined_integers a b c rest (none refl)

  -- ---- chains

  pub chained_by_neighbours : (op : Comparison) (a b c : Element) (rest : List Element)
      → operate z (Ints (Chain op)) (a ∷ b ∷ c ∷ rest)
      ≡ operate z (Core And) (operate z (Ints (Chain op)) (a ∷ b ∷ [])
      ∷ operate z (Ints (Chain op)) (b ∷ c ∷ rest) ∷ [])
  chained_by_neighbours op a b c rest =
      by_orders op (a ∷ b ∷ c ∷ rest)
      ∙ parts (orders op (number_of a) (number_of b)) (are_chained (orders op) (map number_of (b ∷ c ∷ rest)))
      ∙ (λ i. operate z (Core And) (sym (by_orders op (a ∷ b ∷ [])) i ∷ sym (by_orders op (b ∷ c ∷ rest)) i ∷ []))
    where
      parts : (x y : Bool) → Truth (x && y) ≡ operate z (Core And) (Truth (x && true) ∷ Truth y ∷ [])
      parts true true = refl
      parts true false = refl
      parts false y = refl
