-- Ratios are in lowest terms, and these are one.
use Rattle.std.specs.Prelude.{◌≡◌, ℕ, ◌*◌, ◌/◌, ◌<◌, ◌≤◌, ◌^◌, ◌==◌, zero, suc, ℤ, pos, negsuc, ◌*ℤ◌, ◌<ℤ◌}
use Rattle.std.specs.Prelude.{neg_ℤ, unsigned_abs, int_div, Bool, true, false, cond, refl}
use Rattle.std.specs.Int.{IsGcd, ◌∣◌}
use Rattle.std.proofs.lemmas.Nat.Gcd.{dvd_refl}
use Rattle.std.proofs.Common.{sym, ◌∙◌, ap, subst, arith}
use Rattle.std.proofs.Math.Nat as nat
use Rattle.std.proofs.lemmas.Bool.Decides.{Decides-eqb}
use Rattle.std.proofs.lemmas.Int.{unsigned_abs-mul, ints}
use Rattle.smt_ratios.specs.Rational.{Rational, Integer, Fraction, IsRational, numerator, denominator, gcd}
use Rattle.smt_ratios.specs.Rational.{from_terms, ratio}
use Rattle.std.specs.Int.RustNames.{FitsSigned}
use mir.Syntax.{w128}
use Rattle.smt_ratios.proofs.DivisorLemmas.{gcd-at_most, rest_alone, same_terms, gcd-IsGcd, gcd-over_zero}

-- ---- the parts of a number

numerator-cond : (b : Bool) (n : ℤ) (d : ℕ) → numerator (cond b (Integer n) (Fraction n d)) ≡ n
numerator-cond true n d = refl
numerator-cond false n d = refl

pub numerator-from_terms : (n : ℤ) (d : ℕ) → numerator (from_terms n d) ≡ n
numerator-from_terms n d = numerator-cond (d == 1) n d

denominator-cond : (b : Bool) (n : ℤ) (d : ℕ) → (b ≡ true → d ≡ 1) → denominator (cond b (Integer n) (Fraction n d)) ≡ d
denominator-cond true n d e = sym (e refl)
denominator-cond false n d e = refl

pub denominator-from_terms : (n : ℤ) (d : ℕ) → denominator (from_terms n d) ≡ d
denominator-from_terms n d = denominator-cond (d == 1) n d (Decides-eqb d 1).0

-- ---- in lowest terms

abs_div : (n : ℤ) (g : ℕ) → unsigned_abs (int_div n (pos g)) ≡ unsigned_abs n / g
abs_div (pos a) g = refl
abs_div (negsuc a) g = abs_neg (suc a / g)
  where
    abs_neg : (x : ℕ) → unsigned_abs (neg_ℤ (pos x)) ≡ x
    abs_neg zero = refl
    abs_neg (suc x) = refl

real_cond : (b : Bool) (n : ℤ) (d : ℕ) → (b ≡ false → 2 ≤ d) → IsGcd (unsigned_abs n) d 1 → IsRational (cond b (Integer n) (Fraction n d))
real_cond true n d two alone = tt
real_cond false n d two alone = (two refl, alone)

two_or_more : (d : ℕ) → 0 < d → (d == 1) ≡ false → 2 ≤ d
two_or_more d some h = more d some (λ e. let f : (d == 1) ≡ true = (Decides-eqb d 1).1 e in cc)
  where
    more : (d : ℕ) → 0 < d → (d ≡ 1 → ⊥) → 2 ≤ d
    more d p q = omega arith

quotient-over_zero : (d g : ℕ) → 0 < d → g * (d / g) ≡ d → 0 < d / g
quotient-over_zero d g some e = positive (d / g) g (λ z. let f : g * (d / g) ≡ g * 0 = ap (λ x. g * x) z in omega arith)
  where
    positive : (x y : ℕ) → (x ≡ 0 → ⊥) → 0 < x
    positive x y h = omega arith

pub ratio-IsRational : (n : ℤ) (d : ℕ) → 0 < d → IsRational (ratio n d)
ratio-IsRational n d some =
    let a : ℕ = unsigned_abs n in
    let over : 0 < gcd (unsigned_abs n) d = gcd-over_zero (unsigned_abs n) d some in
    let alone : IsGcd (unsigned_abs n / gcd (unsigned_abs n) d) (d / gcd (unsigned_abs n) d) 1 = rest_alone (unsigned_abs n) d over in
    let e : gcd (unsigned_abs n) d * (d / gcd (unsigned_abs n) d) ≡ d = nat.mul-div_cancel' (gcd (unsigned_abs n) d) (gcd-IsGcd (unsigned_abs n) d).1 in
    real_cond (d / gcd (unsigned_abs n) d == 1) _ (d / gcd (unsigned_abs n) d)
    (two_or_more _ (quotient-over_zero d (gcd (unsigned_abs n) d) some e))
    (subst (λ x. IsGcd x (d / gcd (unsigned_abs n) d) 1) (sym (abs_div n (gcd (unsigned_abs n) d))) alone)

-- ---- one number

zero_is : (x y : ℕ) → x ≡ y → pos x ≡ neg_ℤ (pos y) → x ≡ 0
zero_is x zero e h = e
zero_is x (suc y) e h = cc

negated : (a b d : ℕ) → 0 < d → a ≡ b → 0 < b → pos (a * d) ≡ neg_ℤ (pos (b * d)) → ⊥
negated a b d some e over h =
    let z : a * d ≡ 0 = zero_is (a * d) (b * d) (ap (λ x. x * d) e) h in
    let p : 0 * d < a * d = nat.mul-lt-mul_of_pos_right (subst (λ x. 0 < x) (sym e) over) some in
    omega arith

suc_out : (a b : ℕ) → suc a ≡ suc b → negsuc a ≡ negsuc b
suc_out a b e = cc

-- equal but for the sign, and by the products, is equal
same_sign : (n m : ℤ) (d : ℕ) → 0 < d → unsigned_abs n ≡ unsigned_abs m → n *ℤ pos d ≡ m *ℤ pos d → n ≡ m
same_sign (pos a) (pos b) d some e h = ap pos e
same_sign (negsuc a) (negsuc b) d some e h = suc_out a b e
same_sign (pos a) (negsuc b) d some e h = absurd (negated a (suc b) d some e (omega arith) h)
same_sign (negsuc b) (pos a) d some e h = absurd (negated a (suc b) d some (sym e) (omega arith) (sym h))

pub positive : (a : Rational) → IsRational a → 0 < denominator a
positive (Integer z) r = omega arith
positive (Fraction n d) r = omega (arith, r.0)

one_alone : (a : ℕ) → IsGcd a 1 1
one_alone a = (subst (λ x. 1 ∣ x) (nat.one-mul a) (nat.dvd-mul_right 1 a), dvd_refl 1, λ d p q. q)

alone : (a : Rational) → IsRational a → IsGcd (unsigned_abs (numerator a)) (denominator a) 1
alone (Integer z) r = one_alone (unsigned_abs z)
alone (Fraction n d) r = r.1

from_parts : (a b : Rational) → IsRational a → IsRational b → numerator a ≡ numerator b → denominator a ≡ denominator b → a ≡ b
from_parts (Integer z) (Integer y) r s e f = ap Integer e
from_parts (Integer z) (Fraction m d) r s e f = absurd (omega (arith, s.0))
from_parts (Fraction n d) (Integer y) r s e f = absurd (omega (arith, r.0))
from_parts (Fraction n d) (Fraction m c) r s e f = cc

pub one_number : (a b : Rational) → IsRational a → IsRational b
    → numerator a *ℤ pos (denominator b) ≡ numerator b *ℤ pos (denominator a) → a ≡ b
one_number a b r s h =
    let n : ℤ = numerator a in
    let sizes : unsigned_abs (numerator a) * denominator b ≡ unsigned_abs (numerator b) * denominator a =
    sym (unsigned_abs-mul (numerator a) (pos (denominator b))) ∙ ap unsigned_abs h
    ∙ unsigned_abs-mul (numerator b) (pos (denominator a)) in
    let same : (unsigned_abs (numerator a) ≡ unsigned_abs (numerator b)) × (denominator a ≡ denominator b) =
    same_terms (unsigned_abs (numerator a)) (denominator a) (unsigned_abs (numerator b)) (denominator b)
    (positive a r) (positive b s) (alone a r) (alone b s) sizes in
    from_parts a b r s
    (same_sign (numerator a) (numerator b) (denominator b) (positive b s) same.0 (h ∙ ap (λ d. numerator b *ℤ pos d) same.1))
    same.1

-- ---- the quotient

cross : (a d g : ℕ) → g * (a / g) ≡ a → g * (d / g) ≡ d → a / g * d ≡ a * (d / g)
cross a d g e f =
    ap (λ x. a / g * x) (sym f) ∙ swap (a / g) g (d / g) ∙ ap (λ x. x * (d / g)) e
  where
    swap : (x g y : ℕ) → x * (g * y) ≡ g * x * y
    swap x g y = omega arith

neg-mul : (x d : ℕ) → neg_ℤ (pos x) *ℤ pos d ≡ neg_ℤ (pos (x * d))
neg-mul zero d = ap (λ x. pos x) (nat.zero-mul d) ∙ ap (λ x. neg_ℤ (pos x)) (sym (nat.zero-mul d))
neg-mul (suc x) d = refl

quotient_cross : (n : ℤ) (d g : ℕ) → g ∣ unsigned_abs n → g ∣ d → int_div n (pos g) *ℤ pos d ≡ n *ℤ pos (d / g)
quotient_cross (pos a) d g p q = ap pos (cross a d g (nat.mul-div_cancel' g p) (nat.mul-div_cancel' g q))
quotient_cross (negsuc a) d g p q =
    neg-mul (suc a / g) d ∙ ap (λ x. neg_ℤ (pos x)) (cross (suc a) d g (nat.mul-div_cancel' g p) (nat.mul-div_cancel' g q))

pub ratio-quotient : (n : ℤ) (d : ℕ) → 0 < d → numerator (ratio n d) *ℤ pos d ≡ n *ℤ pos (denominator (ratio n d))
ratio-quotient n d some =
    ap (λ x. x *ℤ pos d) (numerator-from_terms (int_div n (pos (gcd (unsigned_abs n) d))) (d / gcd (unsigned_abs n) d))
    ∙ quotient_cross n d (gcd (unsigned_abs n) d) (gcd-IsGcd (unsigned_abs n) d).0 (gcd-IsGcd (unsigned_abs n) d).1
    ∙ ap (λ x. n *ℤ pos x) (sym (denominator-from_terms (int_div n (pos (gcd (unsigned_abs n) d))) (d / gcd (unsigned_abs n) d)))

-- ---- steps of the code

pub divisor_below : (n d : ℤ) (r : ℕ) → pos 0 <ℤ d → FitsSigned w128 d → r ≡ gcd (unsigned_abs n) (unsigned_abs d) → r < 2 ^ 127
divisor_below n (pos d) r h f e =
    let some : 0 < d = omega (arith, ints) in
    omega (arith, gcd-at_most (unsigned_abs n) d some, f.sfits)
divisor_below n (negsuc d) r h f e = absurd (omega (arith, ints))

pub divisor_over : (n d : ℤ) → pos 0 <ℤ d → 0 < gcd (unsigned_abs n) (unsigned_abs d)
divisor_over n (pos d) h = let some : 0 < d = omega (arith, ints) in gcd-over_zero (unsigned_abs n) d some
divisor_over n (negsuc d) h = absurd (omega (arith, ints))

-- the parts that are left over have no divisor in common, and the denominator's is over 0
pub lowest_alone : (n d g q e : ℤ) → pos 0 <ℤ d → g ≡ pos (gcd (unsigned_abs n) (unsigned_abs d))
    → q ≡ int_div n g → e ≡ int_div d g → IsGcd (unsigned_abs q) (unsigned_abs e) 1
lowest_alone n (pos d) g q e h i j k =
    let some : 0 < d = omega (arith, ints) in
    let over : 0 < gcd (unsigned_abs n) d = gcd-over_zero (unsigned_abs n) d some in
    let alone : IsGcd (unsigned_abs n / gcd (unsigned_abs n) d) (d / gcd (unsigned_abs n) d) 1 = rest_alone (unsigned_abs n) d over in
    let top : unsigned_abs q ≡ unsigned_abs n / gcd (unsigned_abs n) d =
    ap unsigned_abs (j ∙ ap (int_div n) i) ∙ abs_div n (gcd (unsigned_abs n) d) in
    let low : unsigned_abs e ≡ d / gcd (unsigned_abs n) d = ap unsigned_abs (k ∙ ap (int_div (pos d)) i) in
    subst (λ x. IsGcd x (unsigned_abs e) 1) (sym top)
    (subst (λ x. IsGcd (unsigned_abs n / gcd (unsigned_abs n) d) x 1) (sym low) alone)
lowest_alone n (negsuc d) g q e h i j k = absurd (omega (arith, ints))

pub lowest_over : (n d g e : ℤ) → pos 0 <ℤ d → g ≡ pos (gcd (unsigned_abs n) (unsigned_abs d))
    → e ≡ int_div d g → 0 < unsigned_abs e
lowest_over n (pos d) g e h i k =
    let some : 0 < d = omega (arith, ints) in
    let low : unsigned_abs e ≡ d / gcd (unsigned_abs n) d = ap unsigned_abs (k ∙ ap (int_div (pos d)) i) in
    let whole : gcd (unsigned_abs n) d * (d / gcd (unsigned_abs n) d) ≡ d = nat.mul-div_cancel' (gcd (unsigned_abs n) d) (gcd-IsGcd (unsigned_abs n) d).1 in
    subst (λ x. 0 < x) (sym low) (quotient-over_zero d (gcd (unsigned_abs n) d) some whole)
lowest_over n (negsuc d) g e h i k = absurd (omega (arith, ints))

pub lowest_is : (n d g q e : ℤ) → pos 0 <ℤ d → g ≡ pos (gcd (unsigned_abs n) (unsigned_abs d))
    → q ≡ int_div n g → e ≡ int_div d g → from_terms q (unsigned_abs e) ≡ ratio n (unsigned_abs d)
lowest_is n (pos d) g q e h i j k =
    ap (λ x. from_terms x (unsigned_abs e)) (j ∙ ap (int_div n) i)
    ∙ ap (λ x. from_terms (int_div n (pos (gcd (unsigned_abs n) d))) (unsigned_abs x)) (k ∙ ap (int_div (pos d)) i)
lowest_is n (negsuc d) g q e h i j k = absurd (omega (arith, ints))
