-- Sums and products of integers, and their order.
use Rattle.std.specs.Prelude.{◌≡◌, ℕ, ◌+◌, ◌*◌, ◌<◌, ◌≤◌, zero, suc, ℤ, pos, negsuc, ◌+ℤ◌, ◌*ℤ◌, neg_ℤ}
use Rattle.std.specs.Prelude.{unsigned_abs, refl, int_lt, Bool, true, false}
use Rattle.std.proofs.Common.{sym, ◌∙◌, ap, arith}
use Rattle.std.proofs.Math.IntN.{*ℤ-one, *ℤ_comm}
use lib.IntN.{one}
use Rattle.std.proofs.Math.Nat as nat
use Rattle.std.proofs.lemmas.Int.{ints}
use borrow.Author.Differences.{down, lt-false, lt-true, neg_is, product_is, same_in, same_out, sum_is_lem}
use borrow.Author.Differences.{true_is_lt, false_is_lt, up}

-- ---- products of three

triple_up : (x y z : ℤ) → up (x *ℤ y *ℤ z)
    ≡ (up x * up y + down x * down y) * up z + (up x * down y + down x * up y) * down z
triple_up x y z =
    (product_is (x *ℤ y) z).0
    ∙ ap (λ (t : ℕ). t * up z + down (x *ℤ y) * down z) (product_is x y).0
    ∙ ap (λ (t : ℕ). (up x * up y + down x * down y) * up z + t * down z) (product_is x y).1

triple_down : (x y z : ℤ) → down (x *ℤ y *ℤ z)
    ≡ (up x * up y + down x * down y) * down z + (up x * down y + down x * up y) * up z
triple_down x y z =
    (product_is (x *ℤ y) z).1
    ∙ ap (λ (t : ℕ). t * down z + down (x *ℤ y) * up z) (product_is x y).0
    ∙ ap (λ (t : ℕ). (up x * up y + down x * down y) * down z + t * up z) (product_is x y).1

rearranged : (a b c d e f : ℕ)
    → ((a * c + b * d) * e + (a * d + b * c) * f) + ((a * e + b * f) * d + (a * f + b * e) * c)
    ≡ ((a * e + b * f) * c + (a * f + b * e) * d) + ((a * c + b * d) * f + (a * d + b * c) * e)
rearranged a b c d e f = omega arith

pub swap : (x y z : ℤ) → x *ℤ y *ℤ z ≡ x *ℤ z *ℤ y
swap x y z = same_in (x *ℤ y *ℤ z) (x *ℤ z *ℤ y)
    (ap (λ (t : ℕ). t + down (x *ℤ z *ℤ y)) (triple_up x y z)
    ∙ ap (λ (t : ℕ). (up x * up y + down x * down y) * up z + (up x * down y + down x * up y) * down z + t) (triple_down x z y)
    ∙ rearranged (up x) (down x) (up y) (down y) (up z) (down z)
    ∙ ap (λ (t : ℕ). (up x * up z + down x * down z) * up y + (up x * down z + down x * up z) * down y + t) (sym (triple_down x y z))
    ∙ ap (λ (t : ℕ). t + down (x *ℤ y *ℤ z)) (sym (triple_up x z y)))

-- ---- sums

times_sum_of : (p q a b c d e f : ℕ) → p + b + d ≡ q + a + c
    → (p * e + q * f) + ((a * f + b * e) + (c * f + d * e)) ≡ ((a * e + b * f) + (c * e + d * f)) + (p * f + q * e)
times_sum_of p q a b c d e f h =
    let l : (p + b + d) * e ≡ (q + a + c) * e = ap (λ (t : ℕ). t * e) h in
    let r : (p + b + d) * f ≡ (q + a + c) * f = ap (λ (t : ℕ). t * f) h in
    omega arith

pub sum_times : (x y z : ℤ) → (x +ℤ y) *ℤ z ≡ x *ℤ z +ℤ y *ℤ z
sum_times x y z =
    let h = times_sum_of (up (x +ℤ y)) (down (x +ℤ y)) (up x) (down x) (up y) (down y) (up z) (down z) (sum_is_lem x y) in
    let p = product_is (x +ℤ y) z in
    let q = product_is x z in
    let r = product_is y z in
    let s = sum_is_lem (x *ℤ z) (y *ℤ z) in
    same_in ((x +ℤ y) *ℤ z) (x *ℤ z +ℤ y *ℤ z) (omega arith)

-- ---- by a number over 0

pub times_one : (x : ℤ) → x *ℤ pos 1 ≡ x
unfolding one
times_one x = *ℤ-one x

scaled_up : (x : ℤ) (k : ℕ) → (up (x *ℤ pos k) ≡ up x * k) × (down (x *ℤ pos k) ≡ down x * k)
scaled_up x k = let p = product_is x (pos k) in (omega arith, omega arith)

pub cancel : (x y : ℤ) (k : ℕ) → 0 < k → x *ℤ pos k ≡ y *ℤ pos k → x ≡ y
cancel x y k some h =
    let p = scaled_up x k in
    let q = scaled_up y k in
    let e = same_out (x *ℤ pos k) (y *ℤ pos k) h in
    let f : (up x + down y) * k ≡ (up y + down x) * k = omega arith in
    same_in x y (nat.eq_of_mul-eq-mul_right k some (up x + down y) (up y + down x) f)

scaled_lt_by : (x y : ℤ) (k : ℕ) → 0 < k → (b : Bool) → int_lt x y ≡ b → int_lt (x *ℤ pos k) (y *ℤ pos k) ≡ b
scaled_lt_by x y k some true h =
    let p = scaled_up x k in
    let q = scaled_up y k in
    let less : up x + down y < up y + down x = lt-true x y h in
    let more : (up x + down y) * k < (up y + down x) * k = nat.mul-lt-mul_of_pos_right less some in
    sym (true_is_lt (x *ℤ pos k) (y *ℤ pos k) (omega arith))
scaled_lt_by x y k some false h =
    let p = scaled_up x k in
    let q = scaled_up y k in
    let less : up y + down x ≤ up x + down y = lt-false x y h in
    let more : (up y + down x) * k ≤ (up x + down y) * k = nat.mul-le-mul_right k less in
    sym (false_is_lt (x *ℤ pos k) (y *ℤ pos k) (omega arith))

pub scaled_lt : (x y : ℤ) (k : ℕ) → 0 < k → int_lt (x *ℤ pos k) (y *ℤ pos k) ≡ int_lt x y
scaled_lt x y k some = scaled_lt_by x y k some (int_lt x y) refl

-- ---- signs

negative_up : (x y : ℤ) → up (neg_ℤ x *ℤ y) ≡ down x * up y + up x * down y
negative_up x y =
    (product_is (neg_ℤ x) y).0 ∙ ap (λ (t : ℕ). t * up y + down (neg_ℤ x) * down y) (neg_is x).0
    ∙ ap (λ (t : ℕ). down x * up y + t * down y) (neg_is x).1

negative_down : (x y : ℤ) → down (neg_ℤ x *ℤ y) ≡ down x * down y + up x * up y
negative_down x y =
    (product_is (neg_ℤ x) y).1 ∙ ap (λ (t : ℕ). t * down y + down (neg_ℤ x) * up y) (neg_is x).0
    ∙ ap (λ (t : ℕ). down x * down y + t * up y) (neg_is x).1

pub negative_times : (x y : ℤ) → neg_ℤ x *ℤ y ≡ neg_ℤ (x *ℤ y)
negative_times x y =
    let a = negative_up x y in
    let b = negative_down x y in
    let p = product_is x y in
    let n = neg_is (x *ℤ y) in
    same_in (neg_ℤ x *ℤ y) (neg_ℤ (x *ℤ y)) (omega arith)

pub times_negative : (x y : ℤ) → x *ℤ neg_ℤ y ≡ neg_ℤ (x *ℤ y)
times_negative x y = *ℤ_comm x (neg_ℤ y) ∙ negative_times y x ∙ ap neg_ℤ (*ℤ_comm y x)

pub negative_twice : (x : ℤ) → neg_ℤ (neg_ℤ x) ≡ x
negative_twice (pos zero) = refl
negative_twice (pos (suc n)) = refl
negative_twice (negsuc n) = refl

pub negative_size : (x : ℤ) → unsigned_abs (neg_ℤ x) ≡ unsigned_abs x
negative_size (pos zero) = refl
negative_size (pos (suc n)) = refl
negative_size (negsuc n) = refl

-- ---- products by two numbers

by_two : (u a b p q : ℕ) → p ≡ u * a → q ≡ p * b → q ≡ u * (a * b)
by_two u a b p q e f = f ∙ ap (λ (t : ℕ). t * b) e ∙ nat.mul_assoc u a b

pub times_times : (x : ℤ) (a b : ℕ) → x *ℤ pos a *ℤ pos b ≡ x *ℤ pos (a * b)
times_times x a b =
    let p = scaled_up (x *ℤ pos a) b in
    let q = scaled_up x a in
    let r = scaled_up x (a * b) in
    let top : up (x *ℤ pos a *ℤ pos b) ≡ up x * (a * b) = by_two (up x) a b _ _ q.0 p.0 in
    let low : down (x *ℤ pos a *ℤ pos b) ≡ down x * (a * b) = by_two (down x) a b _ _ q.1 p.1 in
    same_in (x *ℤ pos a *ℤ pos b) (x *ℤ pos (a * b)) (omega arith)

-- ---- order

pub lt_irreflexive : (x : ℤ) → int_lt x x ≡ false
lt_irreflexive x = sym (false_is_lt x x (omega arith))

pub lt_transitive : (x y z : ℤ) → int_lt x y ≡ true → int_lt y z ≡ true → int_lt x z ≡ true
lt_transitive x y z p q =
    let a = lt-true x y p in
    let b = lt-true y z q in
    sym (true_is_lt x z (omega arith))

-- x is at most y, and y less than z
pub at_most_lt : (x y z : ℤ) → int_lt y x ≡ false → int_lt y z ≡ true → int_lt x z ≡ true
at_most_lt x y z p q =
    let a = lt-false y x p in
    let b = lt-true y z q in
    sym (true_is_lt x z (omega arith))

pub neither_less : (x y : ℤ) → int_lt x y ≡ false → int_lt y x ≡ false → x ≡ y
neither_less x y p q =
    let a = lt-false x y p in
    let b = lt-false y x q in
    same_in x y (omega arith)

-- integers each of which is less than the other's successor are one
pub within_one : (x y : ℤ) → int_lt x (y +ℤ pos 1) ≡ true → int_lt y (x +ℤ pos 1) ≡ true → x ≡ y
within_one x y p q =
    let a = lt-true x (y +ℤ pos 1) p in
    let b = lt-true y (x +ℤ pos 1) q in
    let c = sum_is_lem y (pos 1) in
    let d = sum_is_lem x (pos 1) in
    same_in x y (omega (arith, ints))
