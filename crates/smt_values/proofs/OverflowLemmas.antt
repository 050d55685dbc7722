-- A result overflows exactly where the wrapped one, read in the same way, is another.
use Rattle.std.proofs.Common.{◌≡◌, ◌≢◌, ◌↔◌, ℕ, zero, suc, ◌+◌, ◌-◌, ◌*◌, ◌^◌, ◌<◌, ◌≤◌, ℤ, pos, negsuc, neg_ℤ}
use Rattle.std.proofs.Common.{◌+ℤ◌, ◌-ℤ◌, ◌*ℤ◌, ◌≤ℤ◌, ◌<ℤ◌, Bool, true, false, cond, ◌||◌, List, [], ◌∷◌, refl, sym, ap, ◌∙◌}
use Rattle.std.proofs.Common.{subst, arith}
use Rattle.std.proofs.lemmas.Int.{ints}
use Rattle.std.proofs.lemmas.Bool.Decides.{Decides-eqb}
use Rattle.std.specs.Prelude.{int_div, int_le, int_lt, ◌==◌}
use Rattle.smt_bits.specs.BitVector.{is_negative, modulo, signed, vector}
use Rattle.smt_bits.specs.Operators.{bvsdivo, overflows, overflows_signed}
use Rattle.smt_bits.specs.Readings.{IsModulo}
use Rattle.smt_values.specs.Element.{Element, Truth, Vector}
use Rattle.smt_values.specs.Operations.{truth_of}
use Rattle.smt_values.specs.Readings.{number_of}
use Rattle.smt_values.proofs.ReadingLemmas.{modulo_one}
use Rattle.std.proofs.Math.IntN.{*ℤ_comm, +ℤ_invl, -ℤ-+ℤ_cancel, zero-*ℤ}
use borrow.Author.Differences.{down, false_is_le, false_is_lt, product_is, same_in, sum_is_lem, up}

-- ---- numbers

fits : (m n : ℕ) → n < 2 ^ m → overflows m (pos n) ≡ false
fits m n small = by (int_lt (pos n) (pos 0)) (int_le (pos (2 ^ m)) (pos n))
    (sym (false_is_lt (pos n) (pos 0) (omega arith))) (sym (false_is_le (pos (2 ^ m)) (pos n) (omega arith)))
  where
    by : (a b : Bool) → a ≡ false → b ≡ false → (a || b) ≡ false
    by true b e f = e
    by false b e f = f

-- an integer that does not overflow is its number modulo 2 ^ m
itself : (m n : ℕ) → n < 2 ^ m → IsModulo m (pos n) n
itself m n small = record { below = small; multiple = (pos 0, omega (arith, ints)) }

below_of : (m n : ℕ) → int_le (pos (2 ^ m)) (pos n) ≡ false → n < 2 ^ m
below_of m n e = omega (arith, ints)

kept : (m : ℕ) (z : ℤ) (r : ℕ) → IsModulo m z r → overflows m z ≡ false → pos r ≡ z
kept m (negsuc n) r is e = cc
kept m (pos n) r is e = by (int_lt (pos n) (pos 0)) (int_le (pos (2 ^ m)) (pos n)) refl e
  where
    by : (a b : Bool) → int_le (pos (2 ^ m)) (pos n) ≡ b → (a || b) ≡ false → pos r ≡ pos n
    by true b le e = cc
    by false true le e = cc
    by false false le e = ap pos (modulo_one m (pos n) n r (itself m n (below_of m n le)) is)

-- a test that is false exactly where two integers are the same
exactly : (b : Bool) (x z : ℤ) → (b ≡ false → x ≡ z) → (x ≡ z → b ≡ false) → (Truth b ≡ Truth true) ↔ (x ≢ z)
exactly true x z same other = (λ e s. let f = other s in cc, λ n. refl)
exactly false x z same other = (λ e. let f : false ≡ true = ap truth_of e in cc, λ n. absurd (n (same refl)))

pub wraps : (m : ℕ) (z : ℤ) (r : ℕ) → IsModulo m z r → (Truth (overflows m z) ≡ Truth true) ↔ (pos r ≢ z)
wraps m z r is = exactly (overflows m z) (pos r) z (kept m z r is)
    (λ e. subst (λ x. overflows m x ≡ false) e (fits m r is.below))

-- ---- signed readings

-- what the lower crate says of the signed reading
pub record OneToOne : Type 0 where
  pub integer : (m : ℕ) (z : ℤ) → neg_ℤ (pos (2 ^ m)) ≤ℤ z → z <ℤ pos (2 ^ m)
      → signed (suc m) (modulo (suc m) z) ≡ z
  pub low : (m s : ℕ) → s < 2 ^ suc m → neg_ℤ (pos (2 ^ m)) ≤ℤ signed (suc m) s
  pub high : (m s : ℕ) → s < 2 ^ suc m → signed (suc m) s <ℤ pos (2 ^ m)
  pub modulo_is : (m : ℕ) (z : ℤ) → IsModulo m z (modulo m z)

at_half : (h : ℕ) (z : ℤ)
    → overflows_signed (suc h) z ≡ (int_lt z (neg_ℤ (pos (2 ^ h))) || int_le (pos (2 ^ h)) z)
at_half h z = let half : suc h - 1 ≡ h = omega arith in
    ap (λ k. int_lt z (neg_ℤ (pos (2 ^ k))) || int_le (pos (2 ^ k)) z) half

fits_signed : (h : ℕ) (z : ℤ) → neg_ℤ (pos (2 ^ h)) ≤ℤ z → z <ℤ pos (2 ^ h) → overflows_signed (suc h) z ≡ false
fits_signed h z low high = at_half h z ∙ by (int_lt z (neg_ℤ (pos (2 ^ h)))) (int_le (pos (2 ^ h)) z)
    (sym (false_is_lt z (neg_ℤ (pos (2 ^ h))) (omega (arith, ints))))
    (sym (false_is_le (pos (2 ^ h)) z (omega (arith, ints))))
  where
    by : (a b : Bool) → a ≡ false → b ≡ false → (a || b) ≡ false
    by true b e f = e
    by false b e f = f

kept_signed : OneToOne → (h : ℕ) (z : ℤ) (r : ℕ) → IsModulo (suc h) z r → overflows_signed (suc h) z ≡ false
    → signed (suc h) r ≡ z
kept_signed law h z r is e = by (int_lt z (neg_ℤ (pos (2 ^ h)))) (int_le (pos (2 ^ h)) z) refl refl (sym (at_half h z) ∙ e)
  where
    by : (a b : Bool) → int_lt z (neg_ℤ (pos (2 ^ h))) ≡ a → int_le (pos (2 ^ h)) z ≡ b → (a || b) ≡ false
        → signed (suc h) r ≡ z
    by true b lt le e = cc
    by false true lt le e = cc
    by false false lt le e =
        ap (signed (suc h)) (modulo_one (suc h) z (modulo (suc h) z) r (law.modulo_is (suc h) z) is)
        ∙ law.integer h z (omega (arith, ints)) (omega (arith, ints))

pub wraps_signed : OneToOne → (m : ℕ) (z : ℤ) (r : ℕ) → 1 ≤ m → IsModulo m z r
    → (Truth (overflows_signed m z) ≡ Truth true) ↔ (signed m r ≢ z)
wraps_signed law zero z r some is = absurd (omega arith)
wraps_signed law (suc h) z r some is = exactly (overflows_signed (suc h) z) (signed (suc h) r) z
    (kept_signed law h z r is)
    (λ e. subst (λ x. overflows_signed (suc h) x ≡ false) e
    (fits_signed h (signed (suc h) r) (law.low h r is.below) (law.high h r is.below)))

-- ---- the signed reading differs from the number by a multiple of 2 ^ m

-- products of sums and differences
times_sum_of : (p q a b c d e f : ℕ) → p + b + d ≡ q + a + c
    → (p * e + q * f) + ((a * f + b * e) + (c * f + d * e)) ≡ ((a * e + b * f) + (c * e + d * f)) + (p * f + q * e)
times_sum_of p q a b c d e f h =
    let l : (p + b + d) * e ≡ (q + a + c) * e = ap (λ (t : ℕ). t * e) h in
    let r : (p + b + d) * f ≡ (q + a + c) * f = ap (λ (t : ℕ). t * f) h in
    omega arith

sum_times : (x y z : ℤ) → (x +ℤ y) *ℤ z ≡ x *ℤ z +ℤ y *ℤ z
sum_times x y z =
    let h = times_sum_of (up (x +ℤ y)) (down (x +ℤ y)) (up x) (down x) (up y) (down y) (up z) (down z) (sum_is_lem x y) in
    let p = product_is (x +ℤ y) z in
    let q = product_is x z in
    let r = product_is y z in
    let s = sum_is_lem (x *ℤ z) (y *ℤ z) in
    same_in ((x +ℤ y) *ℤ z) (x *ℤ z +ℤ y *ℤ z) (omega arith)

difference_times : (x y z : ℤ) → (x -ℤ y) *ℤ z +ℤ y *ℤ z ≡ x *ℤ z
difference_times x y z = sym (sum_times (x -ℤ y) y z) ∙ ap (λ d. d *ℤ z) (-ℤ-+ℤ_cancel x y)

negative_times : (x z : ℤ) → neg_ℤ x *ℤ z +ℤ x *ℤ z ≡ pos 0
negative_times x z = sym (sum_times (neg_ℤ x) x z) ∙ ap (λ d. d *ℤ z) (+ℤ_invl x) ∙ zero-*ℤ z

-- another integer, by so many times 2 ^ m less
less : (m : ℕ) (z x : ℤ) (r : ℕ) (k : ℤ) → z ≡ x +ℤ k *ℤ pos (2 ^ m) → IsModulo m z r → IsModulo m x r
less m z x r k e is = record {
  below = is.below;
  multiple = (
    is.multiple.0 -ℤ k,
    by (is.multiple.0 *ℤ pos (2 ^ m)) (k *ℤ pos (2 ^ m))
        ((is.multiple.0 -ℤ k) *ℤ pos (2 ^ m)) is.multiple.1 e (difference_times is.multiple.0 k (pos (2 ^ m))),
  );
}
  where
    by : (a b d : ℤ) → z ≡ pos r +ℤ a → z ≡ x +ℤ b → d +ℤ b ≡ a → x ≡ pos r +ℤ d
    by a b d p q h = omega (arith, ints)

-- how often 2 ^ m was taken away
abbrev turns : Bool → ℕ
turns b = cond b 1 0

number_is : (m s : ℕ) → pos s ≡ signed m s +ℤ pos (turns (is_negative m s)) *ℤ pos (2 ^ m)
number_is m s = by (2 ^ m) (is_negative m s)
  where
    by : (w : ℕ) (b : Bool) → pos s ≡ cond b (pos s -ℤ pos w) (pos s) +ℤ pos (turns b) *ℤ pos w
    by w true = omega (arith, ints)
    by w false = omega (arith, ints)

pub of_sum : (m s t r : ℕ) → IsModulo m (pos s +ℤ pos t) r → IsModulo m (signed m s +ℤ signed m t) r
of_sum m s t r =
    let a = pos (turns (is_negative m s)) in
    let b = pos (turns (is_negative m t)) in
    let w = pos (2 ^ m) in
    less m (pos s +ℤ pos t) (signed m s +ℤ signed m t) r (a +ℤ b)
    (by (signed m s) (signed m t) (a *ℤ w) (b *ℤ w) ((a +ℤ b) *ℤ w) (number_is m s) (number_is m t) (sum_times a b w))
  where
    by : (x y a b c : ℤ) → pos s ≡ x +ℤ a → pos t ≡ y +ℤ b → c ≡ a +ℤ b → pos s +ℤ pos t ≡ (x +ℤ y) +ℤ c
    by x y a b c p q h = omega (arith, ints)

pub of_difference : (m s t r : ℕ) → IsModulo m (pos s -ℤ pos t) r → IsModulo m (signed m s -ℤ signed m t) r
of_difference m s t r =
    let a = pos (turns (is_negative m s)) in
    let b = pos (turns (is_negative m t)) in
    let w = pos (2 ^ m) in
    less m (pos s -ℤ pos t) (signed m s -ℤ signed m t) r (a -ℤ b)
    (by (signed m s) (signed m t) (a *ℤ w) (b *ℤ w) ((a -ℤ b) *ℤ w) (number_is m s) (number_is m t)
    (difference_times a b w))
  where
    by : (x y a b c : ℤ) → pos s ≡ x +ℤ a → pos t ≡ y +ℤ b → c +ℤ b ≡ a → pos s -ℤ pos t ≡ (x -ℤ y) +ℤ c
    by x y a b c p q h = omega (arith, ints)

pub of_negative : (m s r : ℕ) → IsModulo m (neg_ℤ (pos s)) r → IsModulo m (neg_ℤ (signed m s)) r
of_negative m s r =
    let a = pos (turns (is_negative m s)) in
    let w = pos (2 ^ m) in
    less m (neg_ℤ (pos s)) (neg_ℤ (signed m s)) r (neg_ℤ a)
    (by (signed m s) (a *ℤ w) (neg_ℤ a *ℤ w) (number_is m s) (negative_times a w))
  where
    by : (x a c : ℤ) → pos s ≡ x +ℤ a → c +ℤ a ≡ pos 0 → neg_ℤ (pos s) ≡ neg_ℤ x +ℤ c
    by x a c p h = omega (arith, ints)

-- how often it is taken away of a product
product_turns : (m s t : ℕ) → (k : ℤ) × (pos s *ℤ pos t ≡ signed m s *ℤ signed m t +ℤ k *ℤ pos (2 ^ m))
product_turns m s t = by (2 ^ m) (is_negative m s) (is_negative m t)
  where
    both : (w : ℕ) (x y u p q v k : ℤ) → p +ℤ q ≡ v → v ≡ x → x +ℤ pos (w * s) ≡ pos (t * s) → q ≡ y
        → y +ℤ pos (w * w) ≡ pos (t * w) → k +ℤ pos (w * w) ≡ pos ((s + t) * w) → pos (s * t) ≡ p +ℤ k
    both w x y u p q v k a b c d e f = omega (arith, ints)

    first : (w : ℕ) (p : ℤ) → p +ℤ pos (w * t) ≡ pos (s * t) → pos (s * t) ≡ p +ℤ pos (t * w)
    first w p h = omega (arith, ints)

    second : (w : ℕ) (p q : ℤ) → p ≡ q → q +ℤ pos (w * s) ≡ pos (t * s) → pos (s * t) ≡ p +ℤ pos (s * w)
    second w p q e h = omega (arith, ints)

    by : (w : ℕ) (a b : Bool) → (k : ℤ) × (pos s *ℤ pos t
        ≡ cond a (pos s -ℤ pos w) (pos s) *ℤ cond b (pos t -ℤ pos w) (pos t) +ℤ k *ℤ pos w)
    by w true true =
        let y = pos t -ℤ pos w in
        let k = pos (s + t) -ℤ pos w in (
          k,
          both w (y *ℤ pos s) (y *ℤ pos w) (pos 0) ((pos s -ℤ pos w) *ℤ y) (pos w *ℤ y) (pos s *ℤ y) (k *ℤ pos w)
              (difference_times (pos s) (pos w) y) (*ℤ_comm (pos s) y) (difference_times (pos t) (pos w) (pos s))
              (*ℤ_comm (pos w) y) (difference_times (pos t) (pos w) (pos w)) (difference_times (pos (s + t)) (pos w) (pos w)),
        )
    by w true false =
        (pos t, first w ((pos s -ℤ pos w) *ℤ pos t) (difference_times (pos s) (pos w) (pos t)))
    by w false true = (
      pos s,
      second w (pos s *ℤ (pos t -ℤ pos w)) ((pos t -ℤ pos w) *ℤ pos s)
          (*ℤ_comm (pos s) (pos t -ℤ pos w)) (difference_times (pos t) (pos w) (pos s)),
    )
    by w false false = (pos 0, omega (arith, ints))

pub of_product : (m s t r : ℕ) → IsModulo m (pos s *ℤ pos t) r → IsModulo m (signed m s *ℤ signed m t) r
of_product m s t r = let k = product_turns m s t in
    less m (pos s *ℤ pos t) (signed m s *ℤ signed m t) r k.0 k.1

-- ---- what an operator gives

-- a result that is a number modulo 2 ^ m, which another number of the same vector is too
pub same_modulo : (m a r : ℕ) (z : ℤ) → IsModulo m z a → Vector (vector m a) ≡ Vector (vector m r) → IsModulo m z r
same_modulo m a r z is e = subst (IsModulo m z) (ap number_of e) is

-- the quotient by a number other than 0
pub divided_wraps : (m s t r : ℕ) {P : Type 0} → t ≢ 0
    → (Truth (overflows_signed m (int_div (signed m s) (signed m t))) ≡ Truth true) ↔ P
    → (Truth (bvsdivo m s t) ≡ Truth true) ↔ P
divided_wraps m s t r {P} other h = by (t == 0) ((Decides-eqb t 0).0) h
  where
    by : (b : Bool) → (b ≡ true → t ≡ 0)
        → (Truth (overflows_signed m (int_div (signed m s) (signed m t))) ≡ Truth true) ↔ P
        → (Truth (cond b false (overflows_signed m (int_div (signed m s) (signed m t)))) ≡ Truth true) ↔ P
    by true is h = absurd (other (is refl))
    by false is h = h
