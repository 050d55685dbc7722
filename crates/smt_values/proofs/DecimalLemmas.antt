-- The numbers of decimals.
use Rattle.std.proofs.Common.{◌≡◌, ◌≢◌, ℕ, zero, suc, ◌+◌, ◌*◌, ◌^◌, ℤ, pos, ◌*ℤ◌, Bool, true, false, cond, List, []}
use Rattle.std.proofs.Common.{◌∷◌, ◌++◌, length, Option, Some, None, nat_lt, refl, sym, ap, ◌∙◌, subst, arith}
use Rattle.std.proofs.lemmas.Bool.Decides.{Decides-eqb}
use Rattle.std.specs.Prelude.{◌==◌, All, option_map}
use Rattle.smt_ratios.specs.Known.{known, known_decimal}
use Rattle.smt_ratios.specs.Operators.{decimal}
use Rattle.smt_ratios.specs.Rational as rational
use Rattle.smt_ratios.specs.Rational.{denominator, numerator, Rational}
use Rattle.smt_values.proofs.NumberMeaningLemmas.{KnownAreResults}
use Rattle.smt_values.specs.Element.{Element}
use Rattle.smt_values.specs.Decimals.{decimal_digits, decimal_value, places, places_from}
use Rattle.smt_values.specs.Literals.{decimal_element}
use Rattle.smt_values.specs.Numbers.{element_of_number, number_of}

-- ---- places

no_point : (n : ℕ) (bytes : List ℕ) → All (λ byte. byte ≢ 46) bytes → places_from n bytes ≡ n + length bytes
no_point n [] none = omega arith
no_point n (byte ∷ bytes) none =
    by (byte == 46) (Decides-eqb byte 46).0
    (no_point (n + 1) bytes (λ i d below. none (suc i) d (omega arith)))
  where
    by : (b : Bool) → (b ≡ true → byte ≡ 46) → places_from (n + 1) bytes ≡ n + 1 + length bytes
        → cond b (places_from 0 bytes) (places_from (n + 1) bytes) ≡ n + length (byte ∷ bytes)
    by true point rest = absurd (none 0 0 (omega arith) (point refl))
    by false point rest = omega (arith, rest)

pub behind_point : (n : ℕ) (front behind : List ℕ) → All (λ byte. byte ≢ 46) behind
    → places_from n (front ++ 46 ∷ behind) ≡ length behind
behind_point n [] behind none = let h = no_point 0 behind none in omega (arith, h)
behind_point n (byte ∷ front) behind none =
    by (byte == 46) (behind_point 0 front behind none) (behind_point (n + 1) front behind none)
  where
    by : (b : Bool) → places_from 0 (front ++ 46 ∷ behind) ≡ length behind
        → places_from (n + 1) (front ++ 46 ∷ behind) ≡ length behind
        → cond b (places_from 0 (front ++ 46 ∷ behind)) (places_from (n + 1) (front ++ 46 ∷ behind))
        ≡ length behind
    by true first other = first
    by false first other = other

-- ---- numbers

back : (r : Rational) → number_of (element_of_number r) ≡ r
back (rational.Integer z) = refl
back (rational.Fraction n d) = refl

pub decimal_exact : ((n p : ℕ) → numerator (decimal n p) *ℤ pos (10 ^ p) ≡ pos (n * denominator (decimal n p)))
    → (digits : List ℕ)
    → numerator (number_of (decimal_value digits)) *ℤ pos (10 ^ places digits)
    ≡ pos (decimal_digits digits * denominator (number_of (decimal_value digits)))
decimal_exact exact digits =
    subst (λ r. numerator r *ℤ pos (10 ^ places digits) ≡ pos (decimal_digits digits * denominator r))
    (sym (back (decimal (decimal_digits digits) (places digits)))) (exact (decimal_digits digits) (places digits))

pub decimal_known : KnownAreResults → (digits : List ℕ) (e : Element) → decimal_element digits ≡ Some e
    → e ≡ decimal_value digits
decimal_known results digits e is = by (nat_lt (places digits) 39) (results (pos (decimal_digits digits) ∷ [])
    (decimal (decimal_digits digits) (places digits))) is
  where
    one : (o : Option Rational) → ((c : Rational) → o ≡ Some c → c ≡ decimal (decimal_digits digits) (places digits))
        → option_map element_of_number o ≡ Some e
        → e ≡ element_of_number (decimal (decimal_digits digits) (places digits))
    one None f is = cc
    one (Some c) f is = let n : element_of_number c ≡ e = cc in sym n ∙ ap element_of_number (f c refl)

    by : (b : Bool) → ((c : Rational)
        → known (pos (decimal_digits digits) ∷ []) (decimal (decimal_digits digits) (places digits)) ≡ Some c
        → c ≡ decimal (decimal_digits digits) (places digits))
        → option_map element_of_number (cond b (known (pos (decimal_digits digits) ∷ [])
        (decimal (decimal_digits digits) (places digits))) None) ≡ Some e
        → e ≡ element_of_number (decimal (decimal_digits digits) (places digits))
    by true f is =
        one (known (pos (decimal_digits digits) ∷ []) (decimal (decimal_digits digits) (places digits))) f is
    by false f is = cc
