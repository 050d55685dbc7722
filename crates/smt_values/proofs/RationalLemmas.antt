-- What the operators give of rational numbers, through the elements.
use Rattle.std.proofs.Common.{◌≡◌, ◌≢◌, ◌↔◌, zero, suc, ◌≤◌, ℤ, pos, ◌+ℤ◌, Bool, true, false, cond, not, ◌&&◌}
use Rattle.std.proofs.Common.{List, [], ◌∷◌, refl, sym, ap, ◌∙◌, subst, arith, int_le, int_lt, ◌<ℤ◌, ◌≤ℤ◌, rules}
use Rattle.std.proofs.lemmas.Bool.Decides.{Decides-int_eq}
use Rattle.std.specs.Prelude.{map}
use Rattle.std.specs.Ordering.{int_eq}
use Rattle.smt_ratios.specs.Operators.{floor, is_equal, is_integer, is_less, product, quotient}
use Rattle.smt_ratios.specs.Rational as rational
use Rattle.smt_ratios.specs.Rational.{denominator, IsRational, numerator, ratio, Rational}
use Rattle.smt_theory.specs.declared.op.Arithmetic.{Arithmetic}
use Rattle.smt_theory.specs.declared.op.Arithmetic.TheVariants.{Minus, Plus, Times, Div}
use Rattle.smt_theory.specs.declared.op.Comparison.{Comparison}
use Rattle.smt_theory.specs.declared.op.Comparison.TheVariants.{AtMost, Less}
use Rattle.smt_theory.specs.declared.op.IntsOp.TheVariants.{Arithmetic as Left, Comparison as Chain}
use Rattle.smt_theory.specs.declared.op.Op.TheVariants.{Ints, Reals}
use Rattle.smt_theory.specs.declared.op.RealsOp.TheVariants.{Divide, ToReal, ToInt, IsInt}
use Rattle.smt_values.proofs.NumberLemmas.{OperatorsAlike, at_most, back, by_numbers, by_orders, int}
use Rattle.smt_values.specs.Element.{Element, Truth, Integer}
use Rattle.smt_values.specs.Numbers.{Quotient, calculated, divided, element_of_number, number_of, number_of_quotient}
use Rattle.smt_values.specs.Numbers.{operate_numbers, operate_reals, orders, ratio_at_zero}
use Rattle.smt_values.specs.Operations.{DivisionByZero, operate, truth_of}
use Rattle.smt_values.specs.Operations as operations

abbrev pub E : Rational → Element
E r = element_of_number r

-- ---- two numbers

module _ (z : DivisionByZero) (alike : OperatorsAlike z) where
  of_two : (op : Arithmetic) (a b : Rational) → op ≢ Div
      → operate z (Ints (Left op)) (E a ∷ E b ∷ []) ≡ E (calculated op a b)
  of_two op a b other =
      by_numbers z alike op (E a) (E b) [] other
      ∙ (λ i. operate_numbers (Left op) (back z alike a i ∷ back z alike b i ∷ [])) ∙ by op
    where
      by : (op : Arithmetic) → operate_numbers (Left op) (a ∷ b ∷ []) ≡ E (calculated op a b)
      by Minus = refl
      by Plus = refl
      by Times = refl
      by Div = refl

  -- a result that has what one number has
  pub result_only : (op : Arithmetic) (P : Rational → Type 0) (a b c : Rational) → op ≢ Div → P (calculated op a b)
      → (P c → c ≡ calculated op a b) → (operate z (Ints (Left op)) (E a ∷ E b ∷ []) ≡ E c) ↔ P c
  result_only op P a b c other has one = (
    λ e. subst P (sym (back z alike (calculated op a b))
        ∙ ap number_of (sym (of_two op a b other) ∙ e) ∙ back z alike c) has,
    λ h. of_two op a b other ∙ ap E (sym (one h)),
  )

  both_true : (b : Bool) → (b && true) ≡ b
  both_true true = refl
  both_true false = refl

  pub compared_two : (op : Comparison) (a b : Rational)
      → operate z (Ints (Chain op)) (E a ∷ E b ∷ []) ≡ Truth (orders op a b)
  compared_two op a b =
      by_orders z alike op (E a ∷ E b ∷ [])
      ∙ (λ i. Truth (both_true (orders op (back z alike a i) (back z alike b i)) i))

  -- ---- division

  divided_is : (a b : Rational) → numerator b ≢ pos 0 → divided z.ratios a b ≡ quotient a b
  divided_is a b some = by (int_eq (numerator b) (pos 0)) (Decides-int_eq (numerator b) (pos 0)).0
    where
      by : (t : Bool) → (t ≡ true → numerator b ≡ pos 0)
          → cond t (ratio_at_zero z.ratios a) (quotient a b) ≡ quotient a b
      by true none = absurd (some (none refl))
      by false none = refl

  quotient_of : (a b : Rational) → numerator b ≢ pos 0 → operate z (Reals Divide) (E a ∷ E b ∷ []) ≡ E (quotient a b)
  quotient_of a b some = (λ i. E (divided z.ratios (back z alike a i) (back z alike b i))) ∙ ap E (divided_is a b some)

  pub times_divisor : (a b : Rational) → numerator b ≢ pos 0 → product (quotient a b) b ≡ a
      → operate z (Ints (Left Times)) (operate z (Reals Divide) (E a ∷ E b ∷ []) ∷ E b ∷ []) ≡ E a
  times_divisor a b some undone =
      ap (λ e. operate z (Ints (Left Times)) (e ∷ E b ∷ [])) (quotient_of a b some)
      ∙ of_two Times (quotient a b) b (λ e. cc) ∙ ap E undone

  pub divided_by_zero : (a : Rational)
      → operate z (Reals Divide) (E a ∷ Integer (pos 0) ∷ []) ≡ E (divided z.ratios a (int (pos 0)))
  divided_by_zero a = ap (λ r. E (divided z.ratios r (int (pos 0)))) (back z alike a)

  pub divided_from_left : (a b c : Element) (rest : List Element)
      → operate z (Reals Divide) (a ∷ b ∷ c ∷ rest)
      ≡ operate z (Reals Divide) (operate z (Reals Divide) (a ∷ b ∷ []) ∷ c ∷ rest)
  divided_from_left a b c rest =
      ap (λ r. operate_reals z.ratios Divide (r ∷ map number_of (c ∷ rest)))
      (sym (back z alike (divided z.ratios (number_of a) (number_of b))))

  -- ---- integers among the numbers

  pub floor_at_most : (a : Rational) → is_less a (int (floor a)) ≡ false
      → operate z (Ints (Chain AtMost)) (operate z (Reals ToInt) (E a ∷ []) ∷ E a ∷ []) ≡ Truth true
  floor_at_most a low =
      ap (λ r. operate z (Ints (Chain AtMost)) (Integer (floor r) ∷ E a ∷ [])) (back z alike a)
      ∙ compared_two AtMost (int (floor a)) a ∙ ap (λ b. Truth (not b)) low

  pub floor_above : (a : Rational) → is_less a (int (floor a +ℤ pos 1)) ≡ true
      → operate z (Ints (Chain Less)) (E a ∷ operate z (Ints (Left Plus))
      (operate z (Reals ToInt) (E a ∷ []) ∷ Integer (pos 1) ∷ []) ∷ []) ≡ Truth true
  floor_above a high =
      ap (λ r. operate z (Ints (Chain Less)) (E a ∷ Integer (floor r +ℤ pos 1) ∷ [])) (back z alike a)
      ∙ compared_two Less a (int (floor a +ℤ pos 1)) ∙ ap Truth high

  not_true : (b : Bool) → not b ≡ true → b ≡ false
  not_true true h = cc
  not_true false h = refl

  pub floor_one : (a : Rational) (k : ℤ)
      → (is_less a (int k) ≡ false → is_less a (int (k +ℤ pos 1)) ≡ true → k ≡ floor a)
      → operate z (Ints (Chain AtMost)) (Integer k ∷ E a ∷ []) ≡ Truth true
      → operate z (Ints (Chain Less)) (E a ∷ Integer (k +ℤ pos 1) ∷ []) ≡ Truth true
      → operate z (Reals ToInt) (E a ∷ []) ≡ Integer k
  floor_one a k one low high =
      ap (λ r. Integer (floor r)) (back z alike a)
      ∙ ap Integer (sym (one
      (not_true (is_less a (int k)) (ap truth_of (sym (compared_two AtMost (int k) a) ∙ low)))
      (ap truth_of (sym (compared_two Less a (int (k +ℤ pos 1))) ∙ high))))

  pub integer_where : (a : Rational) → (is_integer a ≡ true → int (floor a) ≡ a)
      → (int (floor a) ≡ a → is_integer a ≡ true)
      → (operate z (Reals IsInt) (E a ∷ []) ≡ Truth true)
      ↔ (operate z (Reals ToReal) (operate z (Reals ToInt) (E a ∷ []) ∷ []) ≡ E a)
  integer_where a to from = (
    λ e. ap (λ r. Integer (floor r)) (back z alike a)
        ∙ ap E (to (ap is_integer (sym (back z alike a)) ∙ ap truth_of e)),
    λ e. ap (λ r. Truth (is_integer r)) (back z alike a)
        ∙ ap Truth (from (sym (ap (λ r. int (floor r)) (back z alike a)) ∙ ap number_of e ∙ back z alike a)),
  )

-- ---- order

less_tests : (x y : ℤ) → (int_lt x y ≡ true) ↔ (x <ℤ y)
less_tests x y = search rules

most_tests : (x y : ℤ) → (int_le x y ≡ true) ↔ (x ≤ℤ y)
most_tests x y = search rules

-- a truth value that is what a test of integers gives
pub less_where : {e : Element} (x y : ℤ) → e ≡ Truth (int_lt x y) → (e ≡ Truth true) ↔ (x <ℤ y)
less_where x y is = (
  λ h. (less_tests x y).0 (ap truth_of (sym is ∙ h)),
  λ h. is ∙ ap Truth ((less_tests x y).1 h),
)

pub most_where : {e : Element} (x y : ℤ) → e ≡ Truth (not (int_lt y x)) → (e ≡ Truth true) ↔ (x ≤ℤ y)
most_where x y is = (
  λ h. (most_tests x y).0 (ap truth_of (ap Truth (at_most x y) ∙ sym is ∙ h)),
  λ h. is ∙ ap Truth (sym (at_most x y) ∙ (most_tests x y).1 h),
)

-- ---- by zero

abbrev pub TermsAreNumbers : Type 0
TermsAreNumbers = (a : Rational) → IsRational a → ratio (numerator a) (denominator a) ≡ a

-- each rational number is the quotient of an integer and one more than a natural number
as_quotient : TermsAreNumbers → (a : Rational) → IsRational a → (q : Quotient) × (number_of_quotient q ≡ a)
as_quotient terms (rational.Integer z) h = (record { top = z; less_one = 0 }, terms (rational.Integer z) h)
as_quotient terms (rational.Fraction n zero) h = absurd (let two : 2 ≤ 0 = h.0 in omega arith)
as_quotient terms (rational.Fraction n (suc d)) h =
    (record { top = n; less_one = d }, terms (rational.Fraction n (suc d)) h)

module _ (terms : TermsAreNumbers) (one : (a b : Rational) → is_equal a b ≡ true → a ≡ b)
    (equal : (a b : Rational) → a ≡ b → is_equal a b ≡ true) where
  at_row : (table : List (Quotient × Quotient)) (p q : Quotient) (a r : Rational) → number_of_quotient p ≡ a
      → number_of_quotient q ≡ r → ratio_at_zero ((p, q) ∷ table) a ≡ r
  at_row table p q a r is result = by (is_equal a (number_of_quotient p)) (equal a (number_of_quotient p) (sym is))
    where
      by : (b : Bool) → b ≡ true → cond b (number_of_quotient q) (ratio_at_zero table a) ≡ r
      by true e = result
      by false e = cc

  beside_row : (table : List (Quotient × Quotient)) (p q : Quotient) (a b : Rational) → number_of_quotient p ≡ a
      → b ≢ a → ratio_at_zero ((p, q) ∷ table) b ≡ ratio_at_zero table b
  beside_row table p q a b is other =
      by (is_equal b (number_of_quotient p)) (λ e. one b (number_of_quotient p) e ∙ is)
    where
      by : (c : Bool) → (c ≡ true → b ≡ a)
          → cond c (number_of_quotient q) (ratio_at_zero table b) ≡ ratio_at_zero table b
      by true same = absurd (other (same refl))
      by false same = refl

  pub ratio_free : (z : DivisionByZero) (a r : Rational) → IsRational a → IsRational r
      → (y : DivisionByZero) × (divided y.ratios a (rational.Integer (pos 0)) ≡ r)
      × ((b n : Rational) → b ≢ a → divided y.ratios b n ≡ divided z.ratios b n)
      × ((b n : ℤ) → operations.quotient y b n ≡ operations.quotient z b n)
      × ((b n : ℤ) → operations.remainder y b n ≡ operations.remainder z b n)
  ratio_free z a r h k =
      let p = as_quotient terms a h in
      let q = as_quotient terms r k in (
        record z { ratios = (p.0, q.0) ∷ z.ratios },
        at_row z.ratios p.0 q.0 a r p.1 q.1,
        λ b n other. ap (λ x. cond (int_eq (numerator n) (pos 0)) x (quotient b n))
            (beside_row z.ratios p.0 q.0 a b p.1 other),
        λ b n. refl,
        λ b n. refl,
      )
