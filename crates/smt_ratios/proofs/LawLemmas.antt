-- Numbers by cross products, and the order.
use Rattle.std.specs.Prelude.{◌≡◌, ◌≢◌, ℕ, ◌+◌, ◌*◌, ◌/◌, ◌%◌, ◌^◌, ◌==◌, ◌<◌, zero, suc, ℤ, pos, negsuc}
use Rattle.std.specs.Prelude.{◌+ℤ◌, ◌-ℤ◌, ◌*ℤ◌, neg_ℤ, unsigned_abs, refl, int_lt, true, false, ◌&&◌, Bool}
use Rattle.std.specs.Prelude.{cond, Some, None, option_map, [], ◌∷◌}
use Rattle.std.specs.Int.{IsGcd, int_div_euclid}
use Rattle.std.proofs.Common.{sym, ◌∙◌, ap, subst, arith}
use Rattle.std.proofs.Math.Nat as nat
use Rattle.std.proofs.lemmas.Bool.Decides.{Decides-eqb, Decides-int_eq}
use Rattle.std.proofs.lemmas.Int.{ints}
use Rattle.std.specs.Cmp.{first_so, second_so}
use Rattle.std.specs.Ordering.{int_eq}
use Rattle.std.proofs.lemmas.Nat.{div-add-mod'}
use borrow.Author.Differences.{false_is_lt, true_is_lt}
use Rattle.smt_ratios.specs.Known.{is_within, known, known_difference, known_negative, known_product, known_sum, within}
use Rattle.smt_ratios.proofs.KnownLemmas.{step}
use Rattle.smt_ratios.specs.Operators.{cross, decimal, difference, floor, is_equal, is_integer, is_less}
use Rattle.smt_ratios.specs.Operators.{negative, product, quotient, sum, with_sign_of}
use Rattle.smt_ratios.specs.Rational.{denominator, Fraction, Integer, IsRational, numerator, ratio, Rational}
use Rattle.smt_ratios.proofs.IntegerLemmas.{at_most_lt, cancel, lt_irreflexive, lt_transitive}
use Rattle.smt_ratios.proofs.IntegerLemmas.{negative_size, negative_times, negative_twice, neither_less}
use Rattle.smt_ratios.proofs.IntegerLemmas.{scaled_lt, swap, times_negative, times_one, times_times}
use Rattle.smt_ratios.proofs.IntegerLemmas.{within_one}
use Rattle.smt_ratios.proofs.DecimalLemmas.{power_over_zero}
use Rattle.smt_ratios.proofs.RatioLemmas.{one_number, positive, ratio-IsRational, ratio-quotient}

-- ---- quotients

crossed : (n m c e : ℤ) (d D : ℕ) → m *ℤ pos d ≡ n *ℤ pos D → c *ℤ pos d ≡ n *ℤ e
    → c *ℤ pos D *ℤ pos d ≡ m *ℤ e *ℤ pos d
crossed n m c e d D p q =
    swap c (pos D) (pos d) ∙ ap (λ (x : ℤ). x *ℤ pos D) q ∙ swap n e (pos D)
    ∙ ap (λ (x : ℤ). x *ℤ e) (sym p) ∙ swap m (pos d) e

pub ratio_one : (n : ℤ) (d : ℕ) (c : Rational) → 0 < d → IsRational c
    → numerator c *ℤ pos d ≡ n *ℤ pos (denominator c) → c ≡ ratio n d
ratio_one n d c some is e =
    one_number c (ratio n d) is (ratio-IsRational n d some)
    (cancel _ _ d some
    (crossed n (numerator (ratio n d)) (numerator c) (pos (denominator c)) d (denominator (ratio n d)) (ratio-quotient n d some) e))

pub one_by_cross : (a b : Rational) → IsRational a → IsRational b → cross a b ≡ cross b a → a ≡ b
one_by_cross a b p q e = one_number a b p q e

pub integer_ratio : (z : ℤ) → ratio z 1 ≡ Integer z
integer_ratio z = sym (ratio_one z 1 (Integer z) (omega arith) tt refl)

pub own_terms : (a : Rational) → IsRational a → ratio (numerator a) (denominator a) ≡ a
own_terms a is = sym (ratio_one (numerator a) (denominator a) a (positive a is) is refl)

-- ---- sums, differences, products

pub denominators : (a b : Rational) → IsRational a → IsRational b → 0 < denominator a * denominator b
denominators a b p q =
    let h : 0 * denominator b < denominator a * denominator b = nat.mul-lt-mul_of_pos_right (positive a p) (positive b q) in
    omega arith

pub sum_number : (a b : Rational) → IsRational a → IsRational b → IsRational (sum a b)
sum_number a b p q = ratio-IsRational (cross a b +ℤ cross b a) (denominator a * denominator b) (denominators a b p q)

pub sum_exact : (a b : Rational) → IsRational a → IsRational b
    → (cross a b +ℤ cross b a) *ℤ pos (denominator (sum a b)) ≡ numerator (sum a b) *ℤ pos (denominator a * denominator b)
sum_exact a b p q =
    sym (ratio-quotient (cross a b +ℤ cross b a) (denominator a * denominator b) (denominators a b p q))

pub sum_one : (a b c : Rational) → IsRational a → IsRational b → IsRational c
    → (cross a b +ℤ cross b a) *ℤ pos (denominator c) ≡ numerator c *ℤ pos (denominator a * denominator b) → c ≡ sum a b
sum_one a b c p q r e =
    ratio_one (cross a b +ℤ cross b a) (denominator a * denominator b) c (denominators a b p q) r (sym e)

pub difference_number : (a b : Rational) → IsRational a → IsRational b → IsRational (difference a b)
difference_number a b p q =
    ratio-IsRational (cross a b -ℤ cross b a) (denominator a * denominator b) (denominators a b p q)

pub difference_exact : (a b : Rational) → IsRational a → IsRational b
    → (cross a b -ℤ cross b a) *ℤ pos (denominator (difference a b))
    ≡ numerator (difference a b) *ℤ pos (denominator a * denominator b)
difference_exact a b p q =
    sym (ratio-quotient (cross a b -ℤ cross b a) (denominator a * denominator b) (denominators a b p q))

pub difference_one : (a b c : Rational) → IsRational a → IsRational b → IsRational c
    → (cross a b -ℤ cross b a) *ℤ pos (denominator c) ≡ numerator c *ℤ pos (denominator a * denominator b)
    → c ≡ difference a b
difference_one a b c p q r e =
    ratio_one (cross a b -ℤ cross b a) (denominator a * denominator b) c (denominators a b p q) r (sym e)

pub product_number : (a b : Rational) → IsRational a → IsRational b → IsRational (product a b)
product_number a b p q =
    ratio-IsRational (numerator a *ℤ numerator b) (denominator a * denominator b) (denominators a b p q)

pub product_exact : (a b : Rational) → IsRational a → IsRational b
    → numerator a *ℤ numerator b *ℤ pos (denominator (product a b))
    ≡ numerator (product a b) *ℤ pos (denominator a * denominator b)
product_exact a b p q =
    sym (ratio-quotient (numerator a *ℤ numerator b) (denominator a * denominator b) (denominators a b p q))

pub product_one : (a b c : Rational) → IsRational a → IsRational b → IsRational c
    → numerator a *ℤ numerator b *ℤ pos (denominator c) ≡ numerator c *ℤ pos (denominator a * denominator b)
    → c ≡ product a b
product_one a b c p q r e =
    ratio_one (numerator a *ℤ numerator b) (denominator a * denominator b) c (denominators a b p q) r (sym e)

-- ---- quotients of numbers

some_size : (m : ℤ) → m ≢ pos 0 → 0 < unsigned_abs m
some_size (pos zero) h = absurd (h refl)
some_size (pos (suc n)) h = omega arith
some_size (negsuc n) h = omega arith

by_size : (a : Rational) (m : ℤ) → IsRational a → m ≢ pos 0 → 0 < denominator a * unsigned_abs m
by_size a m p some =
    let h : 0 * unsigned_abs m < denominator a * unsigned_abs m = nat.mul-lt-mul_of_pos_right (positive a p) (some_size m some) in
    omega arith

pub quotient_number : (a b : Rational) → IsRational a → IsRational b → numerator b ≢ pos 0 → IsRational (quotient a b)
quotient_number a b p q some =
    ratio-IsRational (numerator a *ℤ with_sign_of (numerator b) (denominator b)) (denominator a * unsigned_abs (numerator b))
    (by_size a (numerator b) p some)

-- a quotient n / d of a / da by m / e, times m / e
undone : (n a m : ℤ) (d da e : ℕ) → n *ℤ pos (da * unsigned_abs m) ≡ a *ℤ with_sign_of m e *ℤ pos d
    → a *ℤ pos (d * e) ≡ n *ℤ m *ℤ pos da
undone n a (pos k) d da e h =
    ap (λ (x : ℕ). a *ℤ pos x) (nat.mul_comm d e) ∙ sym (times_times a e d) ∙ sym h ∙ sym (times_times n da k)
    ∙ swap n (pos da) (pos k)
undone n a (negsuc k) d da e h =
    let signed : a *ℤ neg_ℤ (pos e) *ℤ pos d ≡ neg_ℤ (a *ℤ pos e *ℤ pos d) =
    ap (λ (x : ℤ). x *ℤ pos d) (times_negative a (pos e)) ∙ negative_times (a *ℤ pos e) (pos d) in
    let other : n *ℤ negsuc k *ℤ pos da ≡ neg_ℤ (n *ℤ pos da *ℤ pos (suc k)) =
    ap (λ (x : ℤ). x *ℤ pos da) (times_negative n (pos (suc k)))
    ∙ negative_times (n *ℤ pos (suc k)) (pos da) ∙ ap neg_ℤ (swap n (pos (suc k)) (pos da)) in
    ap (λ (x : ℕ). a *ℤ pos x) (nat.mul_comm d e) ∙ sym (times_times a e d)
    ∙ sym (negative_twice (a *ℤ pos e *ℤ pos d)) ∙ ap neg_ℤ (sym signed ∙ sym h ∙ sym (times_times n da (suc k)))
    ∙ sym other

pub quotient_back : (a b : Rational) → IsRational a → IsRational b → numerator b ≢ pos 0 → product (quotient a b) b ≡ a
quotient_back a b p q some =
    let whole = ratio-quotient (numerator a *ℤ with_sign_of (numerator b) (denominator b))
    (denominator a * unsigned_abs (numerator b)) (by_size a (numerator b) p some) in
    sym (product_one (quotient a b) b a (quotient_number a b p q some) q p
    (sym (undone (numerator (quotient a b)) (numerator a) (numerator b) (denominator (quotient a b)) (denominator a) (denominator b) whole)))

-- ---- negatives

pub negative_number : (a : Rational) → IsRational a → IsRational (negative a)
negative_number a is = ratio-IsRational (neg_ℤ (numerator a)) (denominator a) (positive a is)

pub negative_integer : (z : ℤ) → negative (Integer z) ≡ Integer (neg_ℤ z)
negative_integer z = integer_ratio (neg_ℤ z)

pub negative_fraction : (n : ℤ) (d : ℕ) → IsRational (Fraction n d) → negative (Fraction n d) ≡ Fraction (neg_ℤ n) d
negative_fraction n d is =
    sym (ratio_one (neg_ℤ n) d (Fraction (neg_ℤ n) d) (positive (Fraction n d) is)
    (is.0, subst (λ (x : ℕ). IsGcd x d 1) (sym (negative_size n)) is.1) refl)

-- ---- integers

pub integer_sum : (x y : ℤ) → sum (Integer x) (Integer y) ≡ Integer (x +ℤ y)
integer_sum x y =
    ap (λ (z : ℤ). ratio (z +ℤ y *ℤ pos 1) 1) (times_one x) ∙ ap (λ (z : ℤ). ratio (x +ℤ z) 1) (times_one y)
    ∙ integer_ratio (x +ℤ y)

pub integer_difference : (x y : ℤ) → difference (Integer x) (Integer y) ≡ Integer (x -ℤ y)
integer_difference x y =
    ap (λ (z : ℤ). ratio (z -ℤ y *ℤ pos 1) 1) (times_one x) ∙ ap (λ (z : ℤ). ratio (x -ℤ z) 1) (times_one y)
    ∙ integer_ratio (x -ℤ y)

pub integer_product : (x y : ℤ) → product (Integer x) (Integer y) ≡ Integer (x *ℤ y)
integer_product x y = integer_ratio (x *ℤ y)

-- what is left to know of a result z, after the denominator 1
known_whole_by : (z : ℤ) (b : Bool) → cond (b && true) (Some (Integer z)) None ≡ option_map Integer (cond b (Some z) None)
known_whole_by z true = refl
known_whole_by z false = refl

known_whole : (z : ℤ) (r : Rational) → r ≡ Integer z → known (z ∷ pos 1 ∷ []) r ≡ option_map Integer (within z)
unfolding known
known_whole z r e = ap (λ (x : Rational). known (z ∷ pos 1 ∷ []) x) e ∙ known_whole_by z (is_within z)

is_step : (x : ℤ) → is_within x ≡ true → within x ≡ Some x
is_step x e = ap (λ b. cond b (Some x) None) e

known_joined : (f : ℤ → ℤ → ℤ) (x y : ℤ) (r : Rational) → is_within x ≡ true → is_within y ≡ true → r ≡ Integer (f x y)
    → known ((x *ℤ pos 1) ∷ (y *ℤ pos 1) ∷ f (x *ℤ pos 1) (y *ℤ pos 1) ∷ pos 1 ∷ []) r ≡ option_map Integer (within (f x y))
known_joined f x y r p q e =
    ap (λ (z : ℤ). known (z ∷ (y *ℤ pos 1) ∷ f z (y *ℤ pos 1) ∷ pos 1 ∷ []) r) (times_one x)
    ∙ ap (λ (z : ℤ). known (x ∷ z ∷ f x z ∷ pos 1 ∷ []) r) (times_one y)
    ∙ step x x (y ∷ f x y ∷ pos 1 ∷ []) r (is_step x p) ∙ step y y (f x y ∷ pos 1 ∷ []) r (is_step y q)
    ∙ known_whole (f x y) r e

pub known_integer_sum : (x y : ℤ) → is_within x ≡ true → is_within y ≡ true
    → known_sum (Integer x) (Integer y) ≡ option_map Integer (within (x +ℤ y))
known_integer_sum x y p q = known_joined (λ a b. a +ℤ b) x y (sum (Integer x) (Integer y)) p q (integer_sum x y)

pub known_integer_difference : (x y : ℤ) → is_within x ≡ true → is_within y ≡ true
    → known_difference (Integer x) (Integer y) ≡ option_map Integer (within (x -ℤ y))
known_integer_difference x y p q =
    known_joined (λ a b. a -ℤ b) x y (difference (Integer x) (Integer y)) p q (integer_difference x y)

pub known_integer_product : (x y : ℤ) → known_product (Integer x) (Integer y) ≡ option_map Integer (within (x *ℤ y))
known_integer_product x y = known_whole (x *ℤ y) (product (Integer x) (Integer y)) (integer_product x y)

known_alone : (z : ℤ) (r : Rational) → r ≡ Integer z → known (z ∷ []) r ≡ option_map Integer (within z)
unfolding known
known_alone z r e = ap (λ (x : Rational). known (z ∷ []) x) e ∙ known_whole_by z (is_within z)

pub known_integer_negative : (x : ℤ) → known_negative (Integer x) ≡ option_map Integer (within (neg_ℤ x))
known_integer_negative x = known_alone (neg_ℤ x) (negative (Integer x)) (negative_integer x)

-- ---- decimals

pub decimal_number : (digits places : ℕ) → IsRational (decimal digits places)
decimal_number digits places = ratio-IsRational (pos digits) (10 ^ places) (power_over_zero places)

pub decimal_exact : (digits places : ℕ)
    → numerator (decimal digits places) *ℤ pos (10 ^ places) ≡ pos (digits * denominator (decimal digits places))
decimal_exact digits places = ratio-quotient (pos digits) (10 ^ places) (power_over_zero places)

-- ---- order

pub less_irreflexive : (a : Rational) → is_less a a ≡ false
less_irreflexive a = lt_irreflexive (cross a a)

pub less_transitive : (a b c : Rational) → IsRational a → IsRational b → IsRational c
    → is_less a b ≡ true → is_less b c ≡ true → is_less a c ≡ true
less_transitive a b c p q r h k =
    let first : int_lt (cross a b *ℤ pos (denominator c)) (cross b a *ℤ pos (denominator c)) ≡ true =
    scaled_lt (cross a b) (cross b a) (denominator c) (positive c r) ∙ h in
    let second : int_lt (cross b c *ℤ pos (denominator a)) (cross c b *ℤ pos (denominator a)) ≡ true =
    scaled_lt (cross b c) (cross c b) (denominator a) (positive a p) ∙ k in
    let same : cross b a *ℤ pos (denominator c) ≡ cross b c *ℤ pos (denominator a) =
    swap (numerator b) (pos (denominator a)) (pos (denominator c)) in
    let chained : int_lt (cross a b *ℤ pos (denominator c)) (cross c b *ℤ pos (denominator a)) ≡ true =
    lt_transitive (cross a b *ℤ pos (denominator c)) (cross b a *ℤ pos (denominator c))
    (cross c b *ℤ pos (denominator a)) first
    (ap (λ (z : ℤ). int_lt z (cross c b *ℤ pos (denominator a))) same ∙ second) in
    sym (scaled_lt (cross a c) (cross c a) (denominator b) (positive b q))
    ∙ ap (λ (z : ℤ). int_lt z (cross c a *ℤ pos (denominator b))) (swap (numerator a) (pos (denominator c)) (pos (denominator b)))
    ∙ ap (λ (z : ℤ). int_lt (cross a b *ℤ pos (denominator c)) z) (swap (numerator c) (pos (denominator a)) (pos (denominator b)))
    ∙ chained

pub less_total : (a b : Rational) → IsRational a → IsRational b → is_less a b ≡ false → is_less b a ≡ false → a ≡ b
less_total a b p q h k = one_by_cross a b p q (neither_less (cross a b) (cross b a) h k)

pub less_integers : (x y : ℤ) → is_less (Integer x) (Integer y) ≡ int_lt x y
less_integers x y =
    ap (λ (z : ℤ). int_lt z (y *ℤ pos 1)) (times_one x) ∙ ap (λ (z : ℤ). int_lt x z) (times_one y)

-- ---- equality

pub equal_one : (a b : Rational) → is_equal a b ≡ true → a ≡ b
equal_one (Integer x) (Integer y) e = ap Integer ((Decides-int_eq x y).0 e)
equal_one (Integer x) (Fraction m d) e = cc
equal_one (Fraction n c) (Integer y) e = cc
equal_one (Fraction n c) (Fraction m d) e =
    let top : n ≡ m = (Decides-int_eq n m).0 (first_so (int_eq n m) (c == d) e) in
    let low : c ≡ d = (Decides-eqb c d).0 (second_so (int_eq n m) (c == d) e) in
    cc

same_equal : (a : Rational) → is_equal a a ≡ true
same_equal (Integer x) = (Decides-int_eq x x).1 refl
same_equal (Fraction n d) =
    ap (λ b. b && d == d) ((Decides-int_eq n n).1 refl) ∙ (Decides-eqb d d).1 refl

pub one_equal : (a b : Rational) → a ≡ b → is_equal a b ≡ true
one_equal a b e = subst (λ (x : Rational). is_equal a x ≡ true) e (same_equal a)

-- ---- floors

pub floor_low : (n : ℤ) (d : ℕ) → 0 < d → int_lt n (int_div_euclid n (pos d) *ℤ pos d) ≡ false
floor_low (pos a) d some =
    let e : a / d * d + a % d ≡ a = div-add-mod' a d in
    sym (false_is_lt (pos a) (pos (a / d) *ℤ pos d) (omega (arith, ints)))
floor_low (negsuc a) d some =
    let e : a / d * d + a % d ≡ a = div-add-mod' a d in
    let rest : a % d < d = nat.mod-lt a some in
    let more : suc (a / d) * d ≡ a / d * d + d = omega arith in
    sym (false_is_lt (negsuc a) (negsuc (a / d) *ℤ pos d) (omega (arith, ints)))

pub floor_high : (n : ℤ) (d : ℕ) → 0 < d → int_lt n ((int_div_euclid n (pos d) +ℤ pos 1) *ℤ pos d) ≡ true
floor_high (pos a) d some =
    let e : a / d * d + a % d ≡ a = div-add-mod' a d in
    let rest : a % d < d = nat.mod-lt a some in
    let more : (a / d + 1) * d ≡ a / d * d + d = omega arith in
    sym (true_is_lt (pos a) (pos (a / d + 1) *ℤ pos d) (omega (arith, ints)))
floor_high (negsuc a) d some =
    let e : a / d * d + a % d ≡ a = div-add-mod' a d in
    let up_one : negsuc (a / d) +ℤ pos 1 ≡ neg_ℤ (pos (a / d)) = omega (arith, ints) in
    let scaled : (negsuc (a / d) +ℤ pos 1) *ℤ pos d ≡ neg_ℤ (pos (a / d * d)) =
    ap (λ (z : ℤ). z *ℤ pos d) up_one ∙ negative_times (pos (a / d)) (pos d) in
    ap (λ (z : ℤ). int_lt (negsuc a) z) scaled ∙ sym (true_is_lt (negsuc a) (neg_ℤ (pos (a / d * d))) (omega (arith, ints)))

at_one : (a : Rational) (z : ℤ) → is_less a (Integer z) ≡ int_lt (numerator a) (z *ℤ pos (denominator a))
at_one a z = ap (λ (x : ℤ). int_lt x (z *ℤ pos (denominator a))) (times_one (numerator a))

pub floor_at_most : (a : Rational) → IsRational a → is_less a (Integer (floor a)) ≡ false
floor_at_most a is = at_one a (floor a) ∙ floor_low (numerator a) (denominator a) (positive a is)

pub floor_above : (a : Rational) → IsRational a → is_less a (Integer (floor a +ℤ pos 1)) ≡ true
floor_above a is = at_one a (floor a +ℤ pos 1) ∙ floor_high (numerator a) (denominator a) (positive a is)

-- z d <= n < (y + 1) d makes z < y + 1
between : (n z y : ℤ) (d : ℕ) → 0 < d → int_lt n (z *ℤ pos d) ≡ false → int_lt n ((y +ℤ pos 1) *ℤ pos d) ≡ true
    → int_lt z (y +ℤ pos 1) ≡ true
between n z y d some h k =
    sym (scaled_lt z (y +ℤ pos 1) d some) ∙ at_most_lt (z *ℤ pos d) n ((y +ℤ pos 1) *ℤ pos d) h k

pub floor_one : (a : Rational) (z : ℤ) → IsRational a → is_less a (Integer z) ≡ false
    → is_less a (Integer (z +ℤ pos 1)) ≡ true → z ≡ floor a
floor_one a z is h k =
    let some = positive a is in
    within_one z (floor a)
    (between (numerator a) z (floor a) (denominator a) some (sym (at_one a z) ∙ h) (floor_high (numerator a) (denominator a) some))
    (between (numerator a) (floor a) z (denominator a) some (floor_low (numerator a) (denominator a) some) (sym (at_one a (z +ℤ pos 1)) ∙ k))

floor_integer : (z : ℤ) → int_div_euclid z (pos 1) ≡ z
floor_integer (pos n) = ap pos (nat.div-one n)
floor_integer (negsuc n) = ap negsuc (nat.div-one n)

pub integer_is_floor : (a : Rational) → is_integer a ≡ true → Integer (floor a) ≡ a
integer_is_floor (Integer z) e = ap Integer (floor_integer z)
integer_is_floor (Fraction n d) e = cc

pub floor_is_integer : (a : Rational) → Integer (floor a) ≡ a → is_integer a ≡ true
floor_is_integer (Integer z) e = refl
floor_is_integer (Fraction n d) e = cc
