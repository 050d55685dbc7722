-- Numbers that are all known.
use Rattle.std.proofs.Common.{◌≡◌, inl, inr, ℕ, suc, ◌^◌, ℤ, Bool, true, false, cond, ◌&&◌, List, []}
use Rattle.std.proofs.Common.{◌∷◌, Option, Some, None, nat_lt, refl, sym, ap, ◌∙◌, subst, arith}
use Rattle.std.proofs.lemmas.Bool.{le-ltb, ltb-false}
use Rattle.std.specs.List.{list_any}
use Rattle.std.specs.Prelude.{All, map, option_and_then, option_map}
use Rattle.smt_ratios.specs.Known.{held, known, known_decimal}
use Rattle.smt_ratios.specs.Operators.{decimal}
use Rattle.smt_theory.specs.Numbers.{below_word}
use Rattle.smt_theory.specs.Shapes.{IsNumber}
use Rattle.smt_theory.specs.Sort.{Sort}
use Rattle.smt_theory.specs.Sort.{Int, Real}
use Rattle.smt_theory.specs.declared.op.IntsOp.{IntsOp}
use Rattle.smt_theory.specs.declared.op.Op.TheVariants.{Ints}
use Rattle.smt_values.specs.Element.{Element, Truth, Integer, Fraction, Vector, Abstract, IsOfSort, AreOfSorts}
use Rattle.smt_values.specs.KnownNumbers.{is_known_fraction, known_mixed, known_numbers}
use Rattle.smt_values.specs.KnownOperations.{known_integers, known_ints, known_step}
use Rattle.smt_values.specs.Numbers.{element_of_number, number_of}
use Rattle.smt_values.specs.Operations.{integer_of}

abbrev IsNumeric : Element → Type 0
IsNumeric (Integer z) = Unit {0}
IsNumeric (Fraction n d) = Unit {0}
IsNumeric _ = ⊥

abbrev pub AreNumeric : List Element → Type 0
AreNumeric [] = Unit {0}
AreNumeric (e ∷ es) = IsNumeric e × AreNumeric es

numeric_int : (e : Element) → IsOfSort Int e → IsNumeric e
numeric_int (Integer z) h = tt
numeric_int (Fraction n d) h = tt
numeric_int (Truth b) h = absurd h
numeric_int (Vector v) h = absurd h
numeric_int (Abstract name) h = absurd h

numeric_real : (e : Element) → IsOfSort Real e → IsNumeric e
numeric_real (Integer z) h = tt
numeric_real (Fraction n d) h = tt
numeric_real (Truth b) h = absurd h
numeric_real (Vector v) h = absurd h
numeric_real (Abstract name) h = absurd h

numeric : (s : Sort) (e : Element) → IsNumber s → IsOfSort s e → IsNumeric e
numeric s e (inl is) h = numeric_int e (subst (λ s. IsOfSort s e) is h)
numeric s e (inr is) h = numeric_real e (subst (λ s. IsOfSort s e) is h)

pub all_numeric : (sorts : List Sort) (es : List Element) → All IsNumber sorts → AreOfSorts sorts es → AreNumeric es
all_numeric [] [] each h = tt
all_numeric [] (e ∷ es) each h = absurd h
all_numeric (s ∷ sorts) [] each h = absurd h
all_numeric (s ∷ sorts) (e ∷ es) each h = (
  numeric s e (each 0 Int (omega arith)) h.0,
  all_numeric sorts es (λ i d below. each (suc i) d (omega arith)) h.1,
)

pub numbers_known : (es : List Element) → AreNumeric es → known_numbers (map Some es) ≡ Some (map number_of es)
numbers_known [] h = refl
numbers_known (Integer z ∷ es) h = ap (option_map (λ rs. number_of (Integer z) ∷ rs)) (numbers_known es h.1)
numbers_known (Fraction n d ∷ es) h = ap (option_map (λ rs. number_of (Fraction n d) ∷ rs)) (numbers_known es h.1)
numbers_known (Truth b ∷ es) h = absurd h.0
numbers_known (Vector v ∷ es) h = absurd h.0
numbers_known (Abstract name ∷ es) h = absurd h.0

-- numbers of which none is a fraction
pub integers_known : (es : List Element) → AreNumeric es → list_any is_known_fraction (map Some es) ≡ false
    → known_integers (map Some es) ≡ Some (map integer_of es)
integers_known [] h none = refl
integers_known (Integer z ∷ es) h none = ap (option_map (λ zs. z ∷ zs)) (integers_known es h.1 none)
integers_known (Fraction n d ∷ es) h none = cc
integers_known (Truth b ∷ es) h none = absurd h.0
integers_known (Vector v ∷ es) h none = absurd h.0
integers_known (Abstract name ∷ es) h none = absurd h.0

-- ---- what the code looks at

no_known_fraction : (ks : List (Option Element)) (zs : List ℤ) → known_integers ks ≡ Some zs
    → list_any is_known_fraction ks ≡ false
no_known_fraction [] zs e = refl
no_known_fraction (None ∷ ks) zs e = cc
no_known_fraction (Some (Truth b) ∷ ks) zs e = cc
no_known_fraction (Some (Fraction n d) ∷ ks) zs e = cc
no_known_fraction (Some (Vector v) ∷ ks) zs e = cc
no_known_fraction (Some (Abstract name) ∷ ks) zs e = cc
no_known_fraction (Some (Integer z) ∷ ks) zs e = by (known_integers ks) (no_known_fraction ks) e
  where
    by : (o : _) → ((ys : _) → o ≡ Some ys → list_any is_known_fraction ks ≡ false)
        → option_map (λ ys. z ∷ ys) o ≡ Some zs → list_any is_known_fraction ks ≡ false
    by None f e = cc
    by (Some ys) f e = f ys refl

-- what is known of the integers alone is known
pub applied_ints : (op : IntsOp) (ks : List (Option Element)) (e : Element)
    → Some e ≡ option_and_then (known_ints op) (known_integers ks) → Some e ≡ known_step (Ints op) ks
applied_ints op ks e is =
    is ∙ sym (ap (λ b. cond b (option_and_then (known_mixed op) (known_numbers ks))
    (option_and_then (known_ints op) (known_integers ks))) (by (known_integers ks) (no_known_fraction ks) is))
  where
    by : (o : _) → ((zs : _) → o ≡ Some zs → list_any is_known_fraction ks ≡ false)
        → Some e ≡ option_and_then (known_ints op) o → list_any is_known_fraction ks ≡ false
    by None f is = cc
    by (Some zs) f is = f zs refl

-- ---- decimals

over : (n : ℕ) → below_word n ≡ None → nat_lt n (2 ^ 127) ≡ false
over n large = by (nat_lt n (2 ^ 128)) refl large
  where
    by : (b : Bool) → nat_lt n (2 ^ 128) ≡ b → cond b (Some n) None ≡ None → nat_lt n (2 ^ 127) ≡ false
    by true k e = cc
    by false k e = le-ltb n (2 ^ 127) (let high = ltb-false n (2 ^ 128) k in omega (arith, high))

pub too_large : (n p : ℕ) → below_word n ≡ None → None ≡ option_map element_of_number (known_decimal n p)
unfolding known
too_large n p large = by (nat_lt p 39) (nat_lt n (2 ^ 127)) (over n large)
  where
    by : (b c : Bool) → c ≡ false
        → None ≡ option_map element_of_number (cond b (cond (c && true) (held (decimal n p)) None) None)
    by true true small = cc
    by true false small = refl
    by false c small = refl
