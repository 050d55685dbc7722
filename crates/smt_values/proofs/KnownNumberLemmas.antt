-- What is known of more than two numbers is known by pairs from the left: within 128 bits it is the same whether
-- integers are calculated as integers or as numbers.
use Rattle.std.proofs.Common.{◌≡◌, ◌≢◌, ℕ, zero, suc, ◌*◌, ◌/◌, ◌^◌, ◌≤◌, ℤ, pos, negsuc, ◌+ℤ◌, ◌-ℤ◌, ◌*ℤ◌}
use Rattle.std.proofs.Common.{neg_ℤ, Bool, true, false, cond, ◌&&◌, ◌||◌, List, [], ◌∷◌, length, Option, Some, None}
use Rattle.std.proofs.Common.{nat_lt, refl, sym, ap, ◌∙◌, arith, unsigned_abs}
use Rattle.std.proofs.Math.Nat.{div-le_self}
use Rattle.std.proofs.lemmas.Bool.{ltb-true, lt-ltb}
use Rattle.std.specs.Prelude.{int_div, map, option_and_then, option_map, ◌==◌}
use Rattle.std.specs.List.{list_all, list_any}
use Rattle.smt_ratios.specs.Known.{known, known_difference, known_product, known_sum}
use Rattle.smt_ratios.specs.Known.{is_within as is_within_ratio, within as within_ratio}
use Rattle.smt_ratios.specs.Operators.{cross}
use Rattle.smt_ratios.specs.Rational as rational
use Rattle.smt_ratios.specs.Rational.{denominator, gcd, numerator, ratio, Rational}
use Rattle.smt_theory.specs.declared.op.Arithmetic.{Arithmetic}
use Rattle.smt_theory.specs.declared.op.Arithmetic.TheVariants.{Minus, Plus, Times, Div}
use Rattle.smt_theory.specs.declared.op.IntsOp.TheVariants.{Arithmetic as Left}
use Rattle.smt_theory.specs.declared.op.Op.TheVariants.{Ints}
use Rattle.smt_values.proofs.KnownLoopLemmas.{from_left_many, length_known}
use Rattle.smt_values.proofs.NumberLemmas.{int, first_no, others_no}
use Rattle.smt_values.proofs.NumberMeaningLemmas.{KnownAreResults}
use Rattle.smt_values.specs.Element.{Element, Truth, Integer, Fraction, Vector, Abstract}
use Rattle.smt_values.specs.KnownNumbers.{is_known_fraction, known_calculated, known_mixed, known_number, known_numbers}
use Rattle.smt_values.specs.KnownOperations.{is_held, is_within, known_arithmetic, known_from_left, known_integer}
use Rattle.smt_values.specs.KnownOperations.{known_integers, known_ints, known_step, within}
use Rattle.smt_values.specs.Lists.{all_known, steps_from}
use Rattle.smt_values.specs.Numbers.{element_of_number}

-- ---- by pairs

module _ {A : Type 0} (f : A → A → Option A) (E : A → Element) (one : Option Element → Option A)
    (K : List A → Option Element) (open_is : one None ≡ None) (known_is : (x : A) → one (Some (E x)) ≡ Some x)
    (many : (x y : A) (zs : List A) → K (x ∷ y ∷ zs) ≡ option_map E (steps_from f x (y ∷ zs))) where
  first_open : (xs : List (Option A)) → option_and_then K (all_known (one None ∷ xs)) ≡ None
  first_open xs = ap (λ o. option_and_then K (all_known (o ∷ xs))) open_is

  second_open : (o : Option A) (xs : List (Option A)) → option_and_then K (all_known (o ∷ None ∷ xs)) ≡ None
  second_open None xs = refl
  second_open (Some x) xs = refl

  back : (o : Option A) → one (option_map E (option_and_then (λ c. Some c) o)) ≡ o
  back None = open_is
  back (Some x) = known_is x

  pair : (x y : A) → one (K (x ∷ y ∷ [])) ≡ f x y
  pair x y = ap one (many x y []) ∙ back (f x y)

  module _ (x y z : A) (cs : List (Option A)) where
    three : (p : Option A) (o : Option (List A)) → f x y ≡ p → all_known cs ≡ o
        → option_and_then K (option_map (λ ys. x ∷ ys) (option_map (λ ys. y ∷ ys) (option_map (λ ys. z ∷ ys) o)))
        ≡ option_and_then K (all_known (p ∷ Some z ∷ cs))
    three None None fe ce = refl
    three None (Some zs) fe ce =
        many x y (z ∷ zs) ∙ ap (λ q. option_map E (option_and_then (λ c. steps_from f c (z ∷ zs)) q)) fe
    three (Some w) None fe ce =
        sym (ap (λ q. option_and_then K (option_map (λ ys. w ∷ ys) (option_map (λ ys. z ∷ ys) q))) ce)
    three (Some w) (Some zs) fe ce =
        many x y (z ∷ zs) ∙ ap (λ q. option_map E (option_and_then (λ c. steps_from f c (z ∷ zs)) q)) fe
        ∙ sym (many w z zs)
        ∙ sym (ap (λ q. option_and_then K (option_map (λ ys. w ∷ ys) (option_map (λ ys. z ∷ ys) q))) ce)

  by_pairs : (a b c : Option A) (cs : List (Option A))
      → option_and_then K (all_known (a ∷ b ∷ c ∷ cs))
      ≡ option_and_then K (all_known (one (option_and_then K (all_known (a ∷ b ∷ []))) ∷ c ∷ cs))
  by_pairs None b c cs = sym (first_open (c ∷ cs))
  by_pairs (Some x) None c cs = sym (first_open (c ∷ cs))
  by_pairs (Some x) (Some y) None cs = sym (second_open (one (K (x ∷ y ∷ []))) cs)
  by_pairs (Some x) (Some y) (Some z) cs =
      three x y z cs (f x y) (all_known cs) refl refl
      ∙ ap (λ p. option_and_then K (all_known (p ∷ Some z ∷ cs))) (sym (pair x y))

ints_many : (op : Arithmetic) (x y : ℤ) (zs : List ℤ)
    → known_ints (Left op) (x ∷ y ∷ zs) ≡ option_map Integer (steps_from (known_arithmetic op) x (y ∷ zs))
ints_many op x y zs = ap (option_map Integer) (from_left_many op x y zs)

mixed_many : (op : Arithmetic) (x y : Rational) (zs : List Rational)
    → known_mixed (Left op) (x ∷ y ∷ zs) ≡ option_map element_of_number (steps_from (known_calculated op) x (y ∷ zs))
mixed_many Minus x y zs = refl
mixed_many Plus x y zs = refl
mixed_many Times x y zs = refl
mixed_many Div x y zs = refl

itself : (r : Rational) → known_number (Some (element_of_number r)) ≡ Some r
itself (rational.Integer z) = refl
itself (rational.Fraction n d) = refl

-- ---- within 128 bits

within_alike : (z : ℤ) → is_within_ratio z ≡ is_within z
within_alike (pos n) = refl
within_alike (negsuc n) = refl

less_within : (m n : ℕ) → m ≤ n → nat_lt n (2 ^ 127) ≡ true → nat_lt m (2 ^ 127) ≡ true
less_within m n least h = lt-ltb m (2 ^ 127) (let below = ltb-true n (2 ^ 127) h in omega (arith, below))

divided_within : (n : ℤ) (g : ℕ) → is_within n ≡ true → is_within (int_div n (pos g)) ≡ true
divided_within (pos a) g h = less_within (a / g) a (div-le_self a g) h
divided_within (negsuc a) g h = by (suc a / g) (div-le_self (suc a) g)
  where
    by : (q : ℕ) → q ≤ suc a → is_within (neg_ℤ (pos q)) ≡ true
    by zero least = refl
    by (suc q) least = less_within q a (omega arith) h

from_terms_within : (b : Bool) (n : ℤ) (d : ℕ) → is_within n ≡ true
    → is_held (Some (element_of_number (cond b (rational.Integer n) (rational.Fraction n d)))) ≡ true
from_terms_within true n d h = h
from_terms_within false n d h = refl

ratio_held : (n : ℤ) (d : ℕ) → is_within n ≡ true → is_held (Some (element_of_number (ratio n d))) ≡ true
ratio_held n d h =
    let g = gcd (unsigned_abs n) d in
    from_terms_within (d / g == 1) (int_div n (pos g)) (d / g) (divided_within n g h)

pub record KnownAlike : Type 0 where
  pub results : KnownAreResults
  pub steps_within : (steps : List ℤ) (r c : Rational) → known steps r ≡ Some c → list_all is_within_ratio steps ≡ true
  pub sums : (x y : ℤ) → is_within_ratio x ≡ true → is_within_ratio y ≡ true
      → known_sum (int x) (int y) ≡ option_map rational.Integer (within_ratio (x +ℤ y))
  pub differences : (x y : ℤ) → is_within_ratio x ≡ true → is_within_ratio y ≡ true
      → known_difference (int x) (int y) ≡ option_map rational.Integer (within_ratio (x -ℤ y))
  pub products : (x y : ℤ) → known_product (int x) (int y) ≡ option_map rational.Integer (within_ratio (x *ℤ y))

first_true : (a b : Bool) → (a && b) ≡ true → a ≡ true
first_true true b h = refl
first_true false b h = cc

others_true : (a b : Bool) → (a && b) ≡ true → b ≡ true
others_true true b h = h
others_true false b h = cc

both_true : (a b : Bool) → a ≡ true → b ≡ true → (a && b) ≡ true
both_true true b h k = k
both_true false b h k = cc

within_of : (z c : ℤ) → within z ≡ Some c → is_within c ≡ true
within_of z c e = by (is_within z) refl e
  where
    by : (b : Bool) → is_within z ≡ b → cond b (Some z) None ≡ Some c → is_within c ≡ true
    by true k e = let n : z ≡ c = cc in ap is_within (sym n) ∙ k
    by false k e = cc

arithmetic_within : (op : Arithmetic) (x y c : ℤ) → op ≢ Div → known_arithmetic op x y ≡ Some c → is_within c ≡ true
arithmetic_within Minus x y c other e = within_of (x -ℤ y) c e
arithmetic_within Plus x y c other e = within_of (x +ℤ y) c e
arithmetic_within Times x y c other e = within_of (x *ℤ y) c e
arithmetic_within Div x y c other e = absurd (other refl)

known_within : (z : ℤ) → option_map int (within_ratio z) ≡ option_map int (within z)
known_within z = ap (λ b. option_map int (cond b (Some z) None)) (within_alike z)

module _ (alike : KnownAlike) where
  third_within : (a b c d : ℤ) (r s : Rational) → known (a ∷ b ∷ c ∷ d ∷ []) r ≡ Some s → is_within c ≡ true
  third_within a b c d r s e =
      sym (within_alike c) ∙ first_true (is_within_ratio c) _ (others_true (is_within_ratio b) _
      (others_true (is_within_ratio a) _ (alike.steps_within (a ∷ b ∷ c ∷ d ∷ []) r s e)))

  first_within : (a b : ℤ) (r s : Rational) → known (a ∷ b ∷ []) r ≡ Some s → is_within a ≡ true
  first_within a b r s e =
      sym (within_alike a) ∙ first_true (is_within_ratio a) _ (alike.steps_within (a ∷ b ∷ []) r s e)

  calculated_held : (op : Arithmetic) (a b s : Rational) → known_calculated op a b ≡ Some s
      → is_held (Some (element_of_number s)) ≡ true
  calculated_held Plus a b s e =
      ap (λ r. is_held (Some (element_of_number r))) (alike.results _ _ s e)
      ∙ ratio_held (cross a b +ℤ cross b a) (denominator a * denominator b) (third_within _ _ _ _ _ s e)
  calculated_held Minus a b s e =
      ap (λ r. is_held (Some (element_of_number r))) (alike.results _ _ s e)
      ∙ ratio_held (cross a b -ℤ cross b a) (denominator a * denominator b) (third_within _ _ _ _ _ s e)
  calculated_held Times a b s e =
      ap (λ r. is_held (Some (element_of_number r))) (alike.results _ _ s e)
      ∙ ratio_held (numerator a *ℤ numerator b) (denominator a * denominator b) (first_within _ _ _ s e)
  calculated_held Div a b s e = cc

  one_alike : (op : Arithmetic) (x y : ℤ) → op ≢ Div → is_within x ≡ true → is_within y ≡ true
      → known_calculated op (int x) (int y) ≡ option_map int (known_arithmetic op x y)
  one_alike Minus x y other h k = alike.differences x y (within_alike x ∙ h) (within_alike y ∙ k)
      ∙ known_within (x -ℤ y)
  one_alike Plus x y other h k = alike.sums x y (within_alike x ∙ h) (within_alike y ∙ k) ∙ known_within (x +ℤ y)
  one_alike Times x y other h k = alike.products x y ∙ known_within (x *ℤ y)
  one_alike Div x y other h k = absurd (other refl)

  steps_alike : (op : Arithmetic) (x : ℤ) (zs : List ℤ) → op ≢ Div → is_within x ≡ true
      → list_all is_within zs ≡ true
      → steps_from (known_calculated op) (int x) (map int zs)
      ≡ option_map int (steps_from (known_arithmetic op) x zs)
  steps_alike op x [] other h k = refl
  steps_alike op x (y ∷ zs) other h k =
      ap (option_and_then (λ c. steps_from (known_calculated op) c (map int zs)))
      (one_alike op x y other h (first_true (is_within y) _ k))
      ∙ by (known_arithmetic op x y) (λ c e. steps_alike op c zs other (arithmetic_within op x y c other e)
      (others_true (is_within y) _ k))
    where
      by : (o : Option ℤ) → ((c : ℤ) → o ≡ Some c → steps_from (known_calculated op) (int c) (map int zs)
          ≡ option_map int (steps_from (known_arithmetic op) c zs))
          → option_and_then (λ c. steps_from (known_calculated op) c (map int zs)) (option_map int o)
          ≡ option_map int (option_and_then (λ c. steps_from (known_arithmetic op) c zs) o)
      by None f = refl
      by (Some c) f = f c refl

  -- ---- arguments

  numbers_of_integers : (ks : List (Option Element)) → list_any is_known_fraction ks ≡ false
      → known_numbers ks ≡ option_map (map int) (known_integers ks)
  numbers_of_integers [] none = refl
  numbers_of_integers (None ∷ ks) none = refl
  numbers_of_integers (Some (Truth b) ∷ ks) none = refl
  numbers_of_integers (Some (Vector v) ∷ ks) none = refl
  numbers_of_integers (Some (Abstract name) ∷ ks) none = refl
  numbers_of_integers (Some (Fraction n d) ∷ ks) none = cc
  numbers_of_integers (Some (Integer z) ∷ ks) none =
      ap (option_map (λ rs. int z ∷ rs)) (numbers_of_integers ks none) ∙ by (known_integers ks)
    where
      by : (o : Option (List ℤ)) → option_map (λ rs. int z ∷ rs) (option_map (map int) o)
          ≡ option_map (map int) (option_map (λ zs. z ∷ zs) o)
      by None = refl
      by (Some zs) = refl

  held_integers : (ks : List (Option Element)) (zs : List ℤ) → known_integers ks ≡ Some zs
      → list_all is_held ks ≡ true → list_all is_within zs ≡ true
  held_integers [] zs e h = let n : [] ≡ zs = cc in ap (list_all is_within) (sym n)
  held_integers (None ∷ ks) zs e h = cc
  held_integers (Some (Truth b) ∷ ks) zs e h = cc
  held_integers (Some (Vector v) ∷ ks) zs e h = cc
  held_integers (Some (Abstract name) ∷ ks) zs e h = cc
  held_integers (Some (Fraction n d) ∷ ks) zs e h = cc
  held_integers (Some (Integer z) ∷ ks) zs e h =
      by (known_integers ks) (λ ys k. held_integers ks ys k (others_true (is_within z) _ h)) e
    where
      by : (o : Option (List ℤ)) → ((ys : List ℤ) → o ≡ Some ys → list_all is_within ys ≡ true)
          → option_map (λ ys. z ∷ ys) o ≡ Some zs → list_all is_within zs ≡ true
      by None f e = cc
      by (Some ys) f e =
          let n : z ∷ ys ≡ zs = cc in
          ap (list_all is_within) (sym n)
          ∙ both_true (is_within z) (list_all is_within ys) (first_true (is_within z) _ h) (f ys refl)

  -- ---- of two arguments or more

  lists_alike : (op : Arithmetic) (n : ℕ) (o : Option (List ℤ)) → op ≢ Div
      → ((zs : List ℤ) → o ≡ Some zs → length zs ≡ suc (suc n))
      → ((zs : List ℤ) → o ≡ Some zs → list_all is_within zs ≡ true)
      → option_and_then (known_ints (Left op)) o ≡ option_and_then (known_mixed (Left op)) (option_map (map int) o)
  lists_alike op n None other counted held = refl
  lists_alike op n (Some []) other counted held = absurd (let c = counted [] refl in omega (arith, c))
  lists_alike op n (Some (x ∷ [])) other counted held = absurd (let c = counted (x ∷ []) refl in omega (arith, c))
  lists_alike op n (Some (x ∷ y ∷ zs)) other counted held =
      let h = held (x ∷ y ∷ zs) refl in
      ints_many op x y zs
      ∙ by (steps_from (known_arithmetic op) x (y ∷ zs))
      ∙ ap (option_map element_of_number) (sym (steps_alike op x (y ∷ zs) other (first_true (is_within x) _ h)
      (others_true (is_within x) _ h)))
      ∙ sym (mixed_many op (int x) (int y) (map int zs))
    where
      by : (p : Option ℤ) → option_map Integer p ≡ option_map element_of_number (option_map int p)
      by None = refl
      by (Some z) = refl

  by_known_numbers : (op : Arithmetic) (k l : Option Element) (ks : List (Option Element)) → op ≢ Div
      → list_all is_held (k ∷ l ∷ ks) ≡ true
      → known_step (Ints (Left op)) (k ∷ l ∷ ks)
      ≡ option_and_then (known_mixed (Left op)) (known_numbers (k ∷ l ∷ ks))
  by_known_numbers op k l ks other held = by (list_any is_known_fraction (k ∷ l ∷ ks)) refl
    where
      by : (b : Bool) → list_any is_known_fraction (k ∷ l ∷ ks) ≡ b
          → cond b (option_and_then (known_mixed (Left op)) (known_numbers (k ∷ l ∷ ks)))
          (option_and_then (known_ints (Left op)) (known_integers (k ∷ l ∷ ks)))
          ≡ option_and_then (known_mixed (Left op)) (known_numbers (k ∷ l ∷ ks))
      by true some = refl
      by false none =
          lists_alike op (length (map known_integer ks)) (known_integers (k ∷ l ∷ ks)) other
          (λ zs e. length_known (map known_integer (k ∷ l ∷ ks)) zs e)
          (λ zs e. held_integers (k ∷ l ∷ ks) zs e held)
          ∙ ap (option_and_then (known_mixed (Left op))) (sym (numbers_of_integers (k ∷ l ∷ ks) none))

  result_held : (op : Arithmetic) (a b : Option Rational)
      → is_held (option_and_then (known_mixed (Left op)) (all_known (a ∷ b ∷ []))) ≡ true
  result_held op None b = refl
  result_held op (Some p) None = refl
  result_held op (Some p) (Some q) =
      ap is_held (mixed_many op p q []) ∙ by (known_calculated op p q) (calculated_held op p q)
    where
      by : (o : Option Rational) → ((s : Rational) → o ≡ Some s → is_held (Some (element_of_number s)) ≡ true)
          → is_held (option_map element_of_number (option_and_then (λ c. Some c) o)) ≡ true
      by None f = refl
      by (Some s) f = f s refl

  more_numbers : (op : Arithmetic) (a b c : Option Element) (rest : List (Option Element)) → op ≢ Div
      → list_all is_held (a ∷ b ∷ c ∷ rest) ≡ true
      → known_step (Ints (Left op)) (a ∷ b ∷ c ∷ rest)
      ≡ known_step (Ints (Left op)) (known_step (Ints (Left op)) (a ∷ b ∷ []) ∷ c ∷ rest)
  more_numbers op a b c rest other held =
      let first : is_held a ≡ true = first_true (is_held a) _ held in
      let second : is_held b ≡ true = first_true (is_held b) _ (others_true (is_held a) _ held) in
      let after : list_all is_held (c ∷ rest) ≡ true =
      others_true (is_held b) _ (others_true (is_held a) _ held) in
      let pair = by_known_numbers op a b [] other
      (both_true (is_held a) (is_held b && true) first (both_true (is_held b) true second refl)) in
      let found : is_held (known_step (Ints (Left op)) (a ∷ b ∷ [])) ≡ true =
      ap is_held pair ∙ result_held op (known_number a) (known_number b) in
      by_known_numbers op a b (c ∷ rest) other held
      ∙ by_pairs (known_calculated op) element_of_number known_number (known_mixed (Left op)) refl itself
      (mixed_many op) (known_number a) (known_number b) (known_number c) (map known_number rest)
      ∙ ap (λ k. option_and_then (known_mixed (Left op)) (known_numbers (k ∷ c ∷ rest))) (sym pair)
      ∙ sym (by_known_numbers op (known_step (Ints (Left op)) (a ∷ b ∷ [])) c rest other
      (both_true _ (list_all is_held (c ∷ rest)) found after))

  -- ---- integers

  by_known_integers : (op : Arithmetic) (ks : List (Option Element)) → list_any is_known_fraction ks ≡ false
      → known_step (Ints (Left op)) ks ≡ option_and_then (known_ints (Left op)) (known_integers ks)
  by_known_integers op ks none =
      ap (λ b. cond b (option_and_then (known_mixed (Left op)) (known_numbers ks))
      (option_and_then (known_ints (Left op)) (known_integers ks))) none

  no_fraction : (op : Arithmetic) (o : Option (List ℤ))
      → is_known_fraction (option_and_then (known_ints (Left op)) o) ≡ false
  no_fraction op None = refl
  no_fraction op (Some zs) = by (known_from_left op zs)
    where
      by : (p : Option ℤ) → is_known_fraction (option_map Integer p) ≡ false
      by None = refl
      by (Some z) = refl

  more_integers : (op : Arithmetic) (a b c : Option Element) (rest : List (Option Element))
      → list_any is_known_fraction (a ∷ b ∷ c ∷ rest) ≡ false
      → known_step (Ints (Left op)) (a ∷ b ∷ c ∷ rest)
      ≡ known_step (Ints (Left op)) (known_step (Ints (Left op)) (a ∷ b ∷ []) ∷ c ∷ rest)
  more_integers op a b c rest none =
      let first : is_known_fraction a ≡ false = first_no (is_known_fraction a) _ none in
      let second : is_known_fraction b ≡ false =
      first_no (is_known_fraction b) _ (others_no (is_known_fraction a) _ none) in
      let after : list_any is_known_fraction (c ∷ rest) ≡ false =
      others_no (is_known_fraction b) _ (others_no (is_known_fraction a) _ none) in
      let pair = by_known_integers op (a ∷ b ∷ []) (λ i. first i || (second i || false)) in
      let found : is_known_fraction (known_step (Ints (Left op)) (a ∷ b ∷ [])) ≡ false =
      ap is_known_fraction pair ∙ no_fraction op (known_integers (a ∷ b ∷ [])) in
      by_known_integers op (a ∷ b ∷ c ∷ rest) none
      ∙ by_pairs (known_arithmetic op) Integer known_integer (known_ints (Left op)) refl (λ z. refl)
      (ints_many op) (known_integer a) (known_integer b) (known_integer c) (map known_integer rest)
      ∙ ap (λ k. option_and_then (known_ints (Left op)) (known_integers (k ∷ c ∷ rest))) (sym pair)
      ∙ sym (by_known_integers op (known_step (Ints (Left op)) (a ∷ b ∷ []) ∷ c ∷ rest)
      (λ i. found i || after i))

  pub more_known : (op : Arithmetic) (a b c : Option Element) (rest : List (Option Element))
      → (list_any is_known_fraction (a ∷ b ∷ c ∷ rest) ≡ true
      → (op ≢ Div) × (list_all is_held (a ∷ b ∷ c ∷ rest) ≡ true))
      → known_step (Ints (Left op)) (a ∷ b ∷ c ∷ rest)
      ≡ known_step (Ints (Left op)) (known_step (Ints (Left op)) (a ∷ b ∷ []) ∷ c ∷ rest)
  more_known op a b c rest mixed = by (list_any is_known_fraction (a ∷ b ∷ c ∷ rest)) refl
    where
      by : (t : Bool) → list_any is_known_fraction (a ∷ b ∷ c ∷ rest) ≡ t
          → known_step (Ints (Left op)) (a ∷ b ∷ c ∷ rest)
          ≡ known_step (Ints (Left op)) (known_step (Ints (Left op)) (a ∷ b ∷ []) ∷ c ∷ rest)
      by true some = let h = mixed some in more_numbers op a b c rest h.0 h.1
      by false none = more_integers op a b c rest none
