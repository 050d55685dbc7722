-- Results of operators on numbers are of the sorts that ranks give.
use Rattle.std.proofs.Common.{◌≡◌, ◌≢◌, inl, inr, ℕ, suc, ◌<◌, ◌≤◌, ℤ, pos, Bool, true, false, cond, ◌||◌}
use Rattle.std.proofs.Common.{List, [], ◌∷◌, length, refl, sym, ap, ◌∙◌, subst, arith}
use Rattle.std.proofs.lemmas.Bool.Decides.{Decides-int_eq}
use Rattle.std.specs.Prelude.{All, fold, map}
use Rattle.std.specs.List.{list_any}
use Rattle.std.specs.Ordering.{int_eq}
use Rattle.smt_ratios.specs.Operators.{difference, is_equal, negative, product, quotient, sum}
use Rattle.smt_ratios.specs.Rational as rational
use Rattle.smt_ratios.specs.Rational.{IsRational, numerator, ratio, Rational}
use Rattle.smt_theory.specs.Ranks.{HasRank}
use Rattle.smt_theory.specs.Shapes.{IsNumber}
use Rattle.smt_theory.specs.declared.op.Arithmetic.{Arithmetic}
use Rattle.smt_theory.specs.declared.op.Arithmetic.TheVariants.{Minus, Plus, Times, Div}
use Rattle.smt_theory.specs.declared.op.IntsOp.TheVariants.{Arithmetic as Left}
use Rattle.smt_theory.specs.declared.op.RealsOp.{RealsOp}
use Rattle.smt_theory.specs.declared.op.RealsOp.TheVariants.{Divide, ToReal, ToInt, IsInt}
use Rattle.smt_theory.specs.declared.op.Op.TheVariants.{Reals}
use Rattle.smt_theory.specs.Sort.{Sort}
use Rattle.smt_theory.specs.Sort.{Boolean, Int, Real}
use Rattle.smt_values.specs.Element.{Element, Truth, Integer, Fraction, Vector, Abstract, IsOfSort, AreOfSorts}
use Rattle.smt_values.specs.Numbers.{Quotient, calculated, divided, element_of_number, is_fraction, number_of}
use Rattle.smt_values.specs.Numbers.{number_of_quotient, operate_numbers, operate_reals, ratio_at_zero}
use Rattle.smt_values.specs.Operations.{DivisionByZero, integer_of, operate_ints}

-- the results of the operators on numbers in lowest terms are in lowest terms
pub record NumbersFit : Type 0 where
  pub ratios : (n : ℤ) (d : ℕ) → 0 < d → IsRational (ratio n d)
  pub sums : (a b : Rational) → IsRational a → IsRational b → IsRational (sum a b)
  pub differences : (a b : Rational) → IsRational a → IsRational b → IsRational (difference a b)
  pub products : (a b : Rational) → IsRational a → IsRational b → IsRational (product a b)
  pub quotients : (a b : Rational) → IsRational a → IsRational b → numerator b ≢ pos 0 → IsRational (quotient a b)
  pub negatives : (a : Rational) → IsRational a → IsRational (negative a)

-- ---- arguments

-- a real, as a number
real_is : (e : Element) → IsOfSort Real e → IsRational (number_of e)
real_is (Integer z) h = tt
real_is (Fraction n d) h = h
real_is (Truth b) h = absurd h
real_is (Vector v) h = absurd h
real_is (Abstract name) h = absurd h

-- an integer is a real
pub int_is : (e : Element) → IsOfSort Int e → IsOfSort Real e
int_is (Integer z) h = tt
int_is (Fraction n d) h = absurd h
int_is (Truth b) h = absurd h
int_is (Vector v) h = absurd h
int_is (Abstract name) h = absurd h

pub number_real : (s : Sort) (e : Element) → IsNumber s → IsOfSort s e → IsOfSort Real e
number_real s e (inl is) h = int_is e (subst (λ s. IsOfSort s e) is h)
number_real s e (inr is) h = subst (λ s. IsOfSort s e) is h

pub is_real : (r : Rational) → IsRational r → IsOfSort Real (element_of_number r)
is_real (rational.Integer z) h = tt
is_real (rational.Fraction n d) h = h

abbrev AreRational : List Rational → Type 0
AreRational [] = Unit {0}
AreRational (r ∷ rs) = IsRational r × AreRational rs

numbers_are : (sorts : List Sort) (es : List Element) → All IsNumber sorts → AreOfSorts sorts es
    → AreRational (map number_of es)
numbers_are [] [] each h = tt
numbers_are [] (e ∷ es) each h = absurd h
numbers_are (s ∷ sorts) [] each h = absurd h
numbers_are (s ∷ sorts) (e ∷ es) each h = (
  real_is e (number_real s e (each 0 Int (omega arith)) h.0),
  numbers_are sorts es (λ i d below. each (suc i) d (omega arith)) h.1,
)

not_fraction : (e : Element) → IsOfSort Int e → is_fraction e ≡ false
not_fraction (Integer z) h = refl
not_fraction (Fraction n d) h = absurd h
not_fraction (Truth b) h = refl
not_fraction (Vector v) h = refl
not_fraction (Abstract name) h = refl

-- integers are no fractions
pub none_is_fraction : (sorts : List Sort) (es : List Element) → All (λ s. s ≡ Int) sorts → AreOfSorts sorts es
    → list_any is_fraction es ≡ false
none_is_fraction [] [] each h = refl
none_is_fraction [] (e ∷ es) each h = absurd h
none_is_fraction (s ∷ sorts) [] each h = absurd h
none_is_fraction (s ∷ sorts) (e ∷ es) each h =
    ap (λ b. b || list_any is_fraction es)
    (not_fraction e (subst (λ s. IsOfSort s e) (each 0 Int (omega arith)) h.0))
    ∙ none_is_fraction sorts es (λ i d below. each (suc i) d (omega arith)) h.1

-- ---- results

module _ (fit : NumbersFit) where
  calculated_fits : (op : Arithmetic) (a b : Rational) → IsRational a → IsRational b → IsRational (calculated op a b)
  calculated_fits Minus a b h k = fit.differences a b h k
  calculated_fits Plus a b h k = fit.sums a b h k
  calculated_fits Times a b h k = fit.products a b h k
  calculated_fits Div a b h k = h

  table_fits : (table : List (Quotient × Quotient)) (a : Rational) → IsRational (ratio_at_zero table a)
  table_fits [] a = tt
  table_fits (row ∷ table) a = by (is_equal a (number_of_quotient row.0)) (table_fits table a)
    where
      by : (b : Bool) → IsRational (ratio_at_zero table a)
          → IsRational (cond b (number_of_quotient row.1) (ratio_at_zero table a))
      by true rest = fit.ratios row.1.top (suc row.1.less_one) (omega arith)
      by false rest = rest

  divided_fits : (table : List (Quotient × Quotient)) (a b : Rational) → IsRational a → IsRational b
      → IsRational (divided table a b)
  divided_fits table a b h k = by (int_eq (numerator b) (pos 0)) (Decides-int_eq (numerator b) (pos 0)).1
    where
      by : (t : Bool) → (numerator b ≡ pos 0 → t ≡ true)
          → IsRational (cond t (ratio_at_zero table a) (quotient a b))
      by true f = table_fits table a
      by false f = fit.quotients a b h k (λ e. (let no : false ≡ true = f e in cc))

  fold_fits : (g : Rational → Rational → Rational)
      → ((a b : Rational) → IsRational a → IsRational b → IsRational (g a b)) → (a : Rational) (rs : List Rational)
      → IsRational a → AreRational rs → IsRational (fold g a rs)
  fold_fits g each a [] h k = h
  fold_fits g each a (b ∷ rs) h k = fold_fits g each (g a b) rs (each a b h k.0) k.1

  mixed_fits : (op : Arithmetic) (a : Rational) (rs : List Rational) → IsRational a → AreRational rs
      → IsOfSort Real (operate_numbers (Left op) (a ∷ rs))
  mixed_fits Minus a [] h k = is_real _ (fit.negatives a h)
  mixed_fits Minus a (b ∷ rs) h k = is_real _ (fold_fits _ (calculated_fits Minus) a (b ∷ rs) h k)
  mixed_fits Plus a rs h k = is_real _ (fold_fits _ (calculated_fits Plus) a rs h k)
  mixed_fits Times a rs h k = is_real _ (fold_fits _ (calculated_fits Times) a rs h k)
  mixed_fits Div a rs h k = is_real _ (fold_fits _ (calculated_fits Div) a rs h k)

  integers_fit : (t : DivisionByZero) (op : Arithmetic) (a : ℤ) (zs : List ℤ)
      → IsOfSort Real (operate_ints t (Left op) (a ∷ zs))
  integers_fit t Minus a [] = tt
  integers_fit t Minus a (b ∷ zs) = tt
  integers_fit t Plus a zs = tt
  integers_fit t Times a zs = tt
  integers_fit t Div a zs = tt

  -- what is calculated of numbers is a real
  pub numbers_fit : (t : DivisionByZero) (op : Arithmetic) (sorts : List Sort) (es : List Element)
      → 1 ≤ length sorts → All IsNumber sorts → AreOfSorts sorts es
      → IsOfSort Real (cond (list_any is_fraction es) (operate_numbers (Left op) (map number_of es))
      (operate_ints t (Left op) (map integer_of es)))
  numbers_fit t op [] es some each h = absurd (omega arith)
  numbers_fit t op (s ∷ sorts) [] some each h = absurd h
  numbers_fit t op (s ∷ sorts) (e ∷ es) some each h = by (list_any is_fraction (e ∷ es))
    where
      all : AreRational (map number_of (e ∷ es))
      all = numbers_are (s ∷ sorts) (e ∷ es) each h

      by : (b : Bool) → IsOfSort Real (cond b (operate_numbers (Left op) (map number_of (e ∷ es)))
          (operate_ints t (Left op) (map integer_of (e ∷ es))))
      by true = mixed_fits op (number_of e) (map number_of es) all.0 all.1
      by false = integers_fit t op (integer_of e) (map integer_of es)

  divide_fits : (table : List (Quotient × Quotient)) (sorts : List Sort) (es : List Element) → 2 ≤ length sorts
      → All IsNumber sorts → AreOfSorts sorts es → IsOfSort Real (operate_reals table Divide (map number_of es))
  divide_fits table [] es some each h = absurd (omega arith)
  divide_fits table (s ∷ sorts) [] some each h = absurd h
  divide_fits table (s ∷ sorts) (e ∷ es) some each h =
      let all = numbers_are (s ∷ sorts) (e ∷ es) each h in
      is_real _ (fold_fits _ (divided_fits table) (number_of e) (map number_of es) all.0 all.1)

  to_real_fits : (table : List (Quotient × Quotient)) (es : List Element) → AreOfSorts (Int ∷ []) es
      → IsOfSort Real (operate_reals table ToReal (map number_of es))
  to_real_fits table [] h = absurd h
  to_real_fits table (e ∷ []) h = is_real (number_of e) (real_is e (int_is e h.0))
  to_real_fits table (e ∷ f ∷ es) h = absurd h.1

  -- of one number
  floor_fits : (table : List (Quotient × Quotient)) (sorts : List Sort) (es : List Element) → length sorts ≡ 1
      → AreOfSorts sorts es → IsOfSort Int (operate_reals table ToInt (map number_of es))
  floor_fits table [] es one h = absurd (omega arith)
  floor_fits table (s ∷ sorts) [] one h = absurd h
  floor_fits table (s ∷ []) (e ∷ []) one h = tt
  floor_fits table (s ∷ []) (e ∷ f ∷ es) one h = absurd h.1
  floor_fits table (s ∷ u ∷ sorts) (e ∷ es) one h = absurd (omega arith)

  truth_fits : (table : List (Quotient × Quotient)) (rs : List Rational)
      → IsOfSort Boolean (operate_reals table IsInt rs)
  truth_fits table [] = tt
  truth_fits table (a ∷ []) = tt
  truth_fits table (a ∷ b ∷ rs) = tt

  of_sort : (s t : Sort) (e : Element) → s ≡ t → IsOfSort t e → IsOfSort s e
  of_sort s t e is h = subst (λ s. IsOfSort s e) (sym is) h

  pub reals_fit : (table : List (Quotient × Quotient)) (op : RealsOp) (sorts : List Sort) (sort : Sort)
      (es : List Element) → HasRank (Reals op) sorts sort → AreOfSorts sorts es
      → IsOfSort sort (operate_reals table op (map number_of es))
  reals_fit table Divide sorts sort es r h =
      of_sort sort Real _ r.1 (divide_fits table sorts es r.0.0 r.0.1 h)
  reals_fit table ToReal sorts sort es r h =
      of_sort sort Real _ r.1 (to_real_fits table es (subst (λ ss. AreOfSorts ss es) r.0 h))
  reals_fit table ToInt sorts sort es r h = of_sort sort Int _ r.1 (floor_fits table sorts es r.0.0 h)
  reals_fit table IsInt sorts sort es r h = of_sort sort Boolean _ r.1 (truth_fits table (map number_of es))
