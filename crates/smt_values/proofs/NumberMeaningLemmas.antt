-- What is known of the results of operators on rational numbers is true.
use Rattle.std.proofs.Common.{◌≡◌, ℤ, pos, Bool, true, false, cond, ◌||◌, List, [], ◌∷◌, Option, Some, None}
use Rattle.std.proofs.Common.{refl, sym, ap, ◌∙◌, subst}
use Rattle.std.specs.Prelude.{map, fold, option_map, option_and_then}
use Rattle.std.specs.List.{list_any}
use Rattle.std.specs.Ordering.{int_eq}
use Rattle.smt_ratios.specs.Known.{known, known_quotient}
use Rattle.smt_ratios.specs.Operators.{quotient}
use Rattle.smt_ratios.specs.Rational as rational
use Rattle.smt_ratios.specs.Rational.{numerator, Rational}
use Rattle.smt_theory.specs.declared.op.Arithmetic.{Arithmetic}
use Rattle.smt_theory.specs.declared.op.Arithmetic.TheVariants.{Minus, Plus, Times, Div}
use Rattle.smt_theory.specs.declared.op.IntsOp.{IntsOp}
use Rattle.smt_theory.specs.declared.op.IntsOp.TheVariants.{Arithmetic as Left, Comparison as Chain, Mod, Abs}
use Rattle.smt_theory.specs.declared.op.IntsOp.TheVariants.{Divisible}
use Rattle.smt_theory.specs.declared.op.RealsOp.{RealsOp}
use Rattle.smt_theory.specs.declared.op.RealsOp.TheVariants.{Divide, ToReal, ToInt, IsInt}
use Rattle.smt_values.specs.Element.{Element, Truth, Integer, Fraction, Vector, Abstract, Agrees, AllAgree}
use Rattle.smt_values.specs.KnownNumbers.{is_known_fraction, known_calculated, known_division, known_mixed}
use Rattle.smt_values.specs.KnownNumbers.{known_numbers, known_reals}
use Rattle.smt_values.specs.KnownOperations.{known_integers}
use Rattle.smt_values.specs.Lists.{steps_from}
use Rattle.smt_values.specs.Numbers.{Quotient, calculated, divided, element_of_number, is_fraction, number_of}
use Rattle.smt_values.specs.Numbers.{operate_numbers, operate_reals}

-- what is known of a rational number is it
abbrev pub KnownAreResults : Type 0
KnownAreResults = (steps : List ℤ) (r c : Rational) → known steps r ≡ Some c → c ≡ r

-- ---- arguments

-- one more argument that is known
module _ {A : Type 0} (one : Element → A) (x : Element) (es : List Element) (a : A) (is : one x ≡ a) where
  more_true : (o : Option (List A)) (ys : List A) → ((zs : List A) → o ≡ Some zs → map one es ≡ zs)
      → option_map (λ zs. a ∷ zs) o ≡ Some ys → one x ∷ map one es ≡ ys
  more_true None ys f e = cc
  more_true (Some zs) ys f e = let n : a ∷ zs ≡ ys = cc in (λ i. is i ∷ f zs refl i) ∙ n

pub numbers_true : (ks : List (Option Element)) (es : List Element) (rs : List Rational) → AllAgree ks es
    → known_numbers ks ≡ Some rs → map number_of es ≡ rs
numbers_true [] [] rs h e = cc
numbers_true [] (x ∷ es) rs h e = absurd h
numbers_true (k ∷ ks) [] rs h e = absurd h
numbers_true (None ∷ ks) (x ∷ es) rs h e = cc
numbers_true (Some (Truth b) ∷ ks) (x ∷ es) rs h e = cc
numbers_true (Some (Vector v) ∷ ks) (x ∷ es) rs h e = cc
numbers_true (Some (Abstract name) ∷ ks) (x ∷ es) rs h e = cc
numbers_true (Some (Integer z) ∷ ks) (x ∷ es) rs h e =
    more_true number_of x es (rational.Integer z) (ap number_of h.0) (known_numbers ks) rs
    (λ ys. numbers_true ks es ys h.1) e
numbers_true (Some (Fraction n d) ∷ ks) (x ∷ es) rs h e =
    more_true number_of x es (rational.Fraction n d) (ap number_of h.0) (known_numbers ks) rs
    (λ ys. numbers_true ks es ys h.1) e

or_true : (b : Bool) → (b || true) ≡ true
or_true true = refl
or_true false = refl

later : (e : Element) (es : List Element) → list_any is_fraction es ≡ true → list_any is_fraction (e ∷ es) ≡ true
later e es h = ap (λ b. is_fraction e || b) h ∙ or_true (is_fraction e)

-- a known fraction is one
pub fraction_agrees : (ks : List (Option Element)) (es : List Element) → AllAgree ks es
    → list_any is_known_fraction ks ≡ true → list_any is_fraction es ≡ true
fraction_agrees [] es h a = cc
fraction_agrees (k ∷ ks) [] h a = absurd h
fraction_agrees (None ∷ ks) (e ∷ es) h a = later e es (fraction_agrees ks es h.1 a)
fraction_agrees (Some (Truth b) ∷ ks) (e ∷ es) h a = later e es (fraction_agrees ks es h.1 a)
fraction_agrees (Some (Integer z) ∷ ks) (e ∷ es) h a = later e es (fraction_agrees ks es h.1 a)
fraction_agrees (Some (Vector v) ∷ ks) (e ∷ es) h a = later e es (fraction_agrees ks es h.1 a)
fraction_agrees (Some (Abstract name) ∷ ks) (e ∷ es) h a = later e es (fraction_agrees ks es h.1 a)
fraction_agrees (Some (Fraction n d) ∷ ks) (e ∷ es) h a = ap (λ x. is_fraction x || list_any is_fraction es) h.0

-- known integers are no fractions
pub integers_agree : (ks : List (Option Element)) (es : List Element) (zs : List ℤ) → AllAgree ks es
    → known_integers ks ≡ Some zs → list_any is_fraction es ≡ false
integers_agree [] [] zs h e = refl
integers_agree [] (x ∷ es) zs h e = absurd h
integers_agree (k ∷ ks) [] zs h e = absurd h
integers_agree (None ∷ ks) (x ∷ es) zs h e = cc
integers_agree (Some (Truth b) ∷ ks) (x ∷ es) zs h e = cc
integers_agree (Some (Fraction n d) ∷ ks) (x ∷ es) zs h e = cc
integers_agree (Some (Vector v) ∷ ks) (x ∷ es) zs h e = cc
integers_agree (Some (Abstract name) ∷ ks) (x ∷ es) zs h e = cc
integers_agree (Some (Integer z) ∷ ks) (x ∷ es) zs h e =
    ap (λ y. is_fraction y || list_any is_fraction es) h.0
    ∙ by (known_integers ks) (λ ys. integers_agree ks es ys h.1) e
  where
    by : (o : _) → ((ys : _) → o ≡ Some ys → list_any is_fraction es ≡ false) → option_map (λ ys. z ∷ ys) o ≡ Some zs
        → list_any is_fraction es ≡ false
    by None f e = cc
    by (Some ys) f e = f ys refl

-- ---- what is combined from the left

steps_agree : (f : Rational → Rational → Option Rational) (g : Rational → Rational → Rational)
    → ((a b c : Rational) → f a b ≡ Some c → g a b ≡ c) → (a : Rational) (rs : List Rational)
    → Agrees (option_map element_of_number (steps_from f a rs)) (element_of_number (fold g a rs))
steps_agree f g each a [] = refl
steps_agree f g each a (b ∷ rs) = by (f a b) (each a b) (λ c. steps_agree f g each c rs)
  where
    by : (o : Option Rational) → ((c : Rational) → o ≡ Some c → g a b ≡ c)
        → ((c : Rational) → Agrees (option_map element_of_number (steps_from f c rs)) (element_of_number (fold g c rs)))
        → Agrees (option_map element_of_number (option_and_then (λ c. steps_from f c rs) o))
        (element_of_number (fold g (g a b) rs))
    by None e h = tt
    by (Some c) e h = subst (λ d. Agrees (option_map element_of_number (steps_from f c rs))
        (element_of_number (fold g d rs))) (sym (e c refl)) (h c)

one_agrees : (o : Option Rational) (r : Rational) → ((c : Rational) → o ≡ Some c → c ≡ r)
    → Agrees (option_map element_of_number o) (element_of_number r)
one_agrees None r h = tt
one_agrees (Some c) r h = ap element_of_number (sym (h c refl))

module _ (results : KnownAreResults) where
  calculated_is : (op : Arithmetic) (a b c : Rational) → known_calculated op a b ≡ Some c → calculated op a b ≡ c
  calculated_is Minus a b c e = sym (results _ _ c e)
  calculated_is Plus a b c e = sym (results _ _ c e)
  calculated_is Times a b c e = sym (results _ _ c e)
  calculated_is Div a b c e = cc

  divided_is : (table : List (Quotient × Quotient)) (a b c : Rational) → known_division a b ≡ Some c
      → divided table a b ≡ c
  divided_is table a b c e = by (int_eq (numerator b) (pos 0)) _ e
    where
      by : (t : Bool) (d : Rational) → cond t None (known_quotient a b) ≡ Some c → cond t d (quotient a b) ≡ c
      by true d e = cc
      by false d e = sym (results _ _ c e)

  pub mixed_true : (op : IntsOp) (rs : List Rational) → Agrees (known_mixed op rs) (operate_numbers op rs)
  mixed_true (Left Minus) [] = tt
  mixed_true (Left Minus) (a ∷ []) = one_agrees _ _ (results _ _)
  mixed_true (Left Minus) (a ∷ b ∷ rs) = steps_agree _ _ (calculated_is Minus) a (b ∷ rs)
  mixed_true (Left Plus) [] = tt
  mixed_true (Left Plus) (a ∷ rs) = steps_agree _ _ (calculated_is Plus) a rs
  mixed_true (Left Times) [] = tt
  mixed_true (Left Times) (a ∷ rs) = steps_agree _ _ (calculated_is Times) a rs
  mixed_true (Left Div) [] = tt
  mixed_true (Left Div) (a ∷ rs) = steps_agree _ _ (calculated_is Div) a rs
  mixed_true (Chain op) rs = refl
  mixed_true Mod rs = tt
  mixed_true Abs rs = tt
  mixed_true (Divisible n) rs = tt

  pub reals_true : (table : List (Quotient × Quotient)) (op : RealsOp) (rs : List Rational)
      → Agrees (known_reals op rs) (operate_reals table op rs)
  reals_true table Divide [] = tt
  reals_true table Divide (a ∷ rs) = steps_agree _ _ (divided_is table) a rs
  reals_true table ToReal [] = tt
  reals_true table ToReal (a ∷ []) = refl
  reals_true table ToReal (a ∷ b ∷ rs) = tt
  reals_true table ToInt [] = tt
  reals_true table ToInt (a ∷ []) = refl
  reals_true table ToInt (a ∷ b ∷ rs) = tt
  reals_true table IsInt [] = tt
  reals_true table IsInt (a ∷ []) = refl
  reals_true table IsInt (a ∷ b ∷ rs) = tt
