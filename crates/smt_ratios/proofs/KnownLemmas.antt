-- What is known, step by step.
use Rattle.std.specs.Prelude.{◌≡◌, ◌*◌, ◌<◌, ℤ, pos, negsuc, ◌*ℤ◌, ◌<ℤ◌, List, [], ◌∷◌, Bool, true, false}
use Rattle.std.specs.Prelude.{◌&&◌}
use Rattle.std.specs.Prelude.{cond, Option, Some, None, IfSome, nat_lt, refl, unsigned_abs, ◌^◌}
use Rattle.std.specs.List.{list_all}
use Rattle.std.proofs.Common.{sym, ◌∙◌, ap, arith, subst}
use Rattle.std.proofs.Math.Nat as nat
use Rattle.std.proofs.lemmas.Int.{ints}
use borrow.Author.Tests.{ltb-true, lt-ltb}
use Rattle.smt_ratios.specs.Known.{held, is_within, known, within}
use Rattle.smt_ratios.specs.Rational.{denominator, ratio, Rational}

outside : (b : Bool) (z : ℤ) → cond b (Some z) None ≡ None → b ≡ false
outside true z e = cc
outside false z e = refl

inside : (b : Bool) (z y : ℤ) → cond b (Some z) None ≡ Some y → (b ≡ true) × (y ≡ z)
inside true z y e = (refl, cc)
inside false z y e = cc

-- a step outside 128 bits ends it
pub stop : (x : ℤ) (xs : List ℤ) (r : Rational) → within x ≡ None → known (x ∷ xs) r ≡ None
unfolding known
stop x xs r e = ap (λ b. cond (b && list_all is_within xs) (held r) None) (outside (is_within x) x e)

-- a step within leaves the others
pub step : (x y : ℤ) (xs : List ℤ) (r : Rational) → within x ≡ Some y → known (x ∷ xs) r ≡ known xs r
unfolding known
step x y xs r e = ap (λ b. cond (b && list_all is_within xs) (held r) None) (inside (is_within x) x y e).0

pub within_is : (x y : ℤ) → within x ≡ Some y → y ≡ x
within_is x y e = (inside (is_within x) x y e).1

-- one step
pub one_done : (x p d : ℤ) → within x ≡ Some p → held (ratio p (unsigned_abs d)) ≡ known (x ∷ []) (ratio x (unsigned_abs d))
unfolding known
one_done x p d e =
    ap (λ (z : ℤ). held (ratio z (unsigned_abs d))) (within_is x p e) ∙ sym (step x p [] (ratio x (unsigned_abs d)) e)

-- a numerator and a denominator
pub two_done : (x u p q : ℤ) → within x ≡ Some p → within u ≡ Some q
    → held (ratio p (unsigned_abs q)) ≡ known (x ∷ u ∷ []) (ratio x (unsigned_abs u))
two_done x u p q e f =
    ap (λ (z : ℤ). held (ratio p (unsigned_abs z))) (within_is u q f) ∙ one_done x p u e
    ∙ step x p [] (ratio x (unsigned_abs u)) e
    ∙ sym (step x p (u ∷ []) (ratio x (unsigned_abs u)) e ∙ step u q [] (ratio x (unsigned_abs u)) f)

-- two products, and what an operator makes of them
joined : (f : ℤ → ℤ → ℤ) (x y a b : ℤ) → within x ≡ Some a → within y ≡ Some b → f a b ≡ f x y
joined f x y a b e h = ap (λ (z : ℤ). f z b) (within_is x a e) ∙ ap (λ (z : ℤ). f x z) (within_is y b h)

pub three_stop : (f : ℤ → ℤ → ℤ) (x y a b : ℤ) (xs : List ℤ) (r : Rational) → within x ≡ Some a → within y ≡ Some b
    → within (f a b) ≡ None → known (x ∷ y ∷ f x y ∷ xs) r ≡ None
three_stop f x y a b xs r e h i =
    step x a (y ∷ f x y ∷ xs) r e ∙ step y b (f x y ∷ xs) r h
    ∙ stop (f x y) xs r (ap within (sym (joined f x y a b e h)) ∙ i)

pub three_step : (f : ℤ → ℤ → ℤ) (x y a b p : ℤ) (xs : List ℤ) (r : Rational) → within x ≡ Some a → within y ≡ Some b
    → within (f a b) ≡ Some p → known (x ∷ y ∷ f x y ∷ xs) r ≡ known xs r
three_step f x y a b p xs r e h i =
    step x a (y ∷ f x y ∷ xs) r e ∙ step y b (f x y ∷ xs) r h
    ∙ step (f x y) p xs r (ap within (sym (joined f x y a b e h)) ∙ i)

pub four_done : (f : ℤ → ℤ → ℤ) (x y u a b p q : ℤ) → within x ≡ Some a → within y ≡ Some b → within (f a b) ≡ Some p
    → within u ≡ Some q
    → held (ratio p (unsigned_abs q)) ≡ known (x ∷ y ∷ f x y ∷ u ∷ []) (ratio (f x y) (unsigned_abs u))
four_done f x y u a b p q e h i j =
    let k : within (f x y) ≡ Some p = ap within (sym (joined f x y a b e h)) ∙ i in
    two_done (f x y) u p q k j ∙ step (f x y) p (u ∷ []) (ratio (f x y) (unsigned_abs u)) k
    ∙ sym (three_step f x y a b p (u ∷ []) (ratio (f x y) (unsigned_abs u)) e h i)

-- a product is over zero where both factors are
pub product_positive : (d e : ℤ) → pos 0 <ℤ d → pos 0 <ℤ e → pos 0 <ℤ (d *ℤ e)
product_positive (pos d) (pos e) p q =
    let a : 0 < d = omega (arith, ints) in
    let b : 0 < e = omega (arith, ints) in
    let c : 0 * e < d * e = nat.mul-lt-mul_of_pos_right a b in
    omega (arith, ints)
product_positive (negsuc d) (pos e) p q = absurd (omega (arith, ints))
product_positive (pos d) (negsuc e) p q = absurd (omega (arith, ints))
product_positive (negsuc d) (negsuc e) p q = absurd (omega (arith, ints))

pub some_positive : (r : Option ℤ) (z : ℤ) → r ≡ within z → pos 0 <ℤ z → IfSome r (λ n. pos 0 <ℤ n)
some_positive None z e p = tt
some_positive (Some y) z e p = subst (λ n. pos 0 <ℤ n) (sym (within_is z y (sym e))) p

-- ---- what is known is the result

parts : (b t : Bool) (r c : Rational) → cond b (cond t (Some r) None) None ≡ Some c → (b ≡ true) × (t ≡ true) × (c ≡ r)
parts true true r c e = (refl, refl, cc)
parts true false r c e = cc
parts false t r c e = cc

pub known_result : (steps : List ℤ) (r c : Rational) → known steps r ≡ Some c → c ≡ r
unfolding known
known_result steps r c e = (parts (list_all is_within steps) (nat_lt (denominator r) (2 ^ 120)) r c e).2

pub known_within : (steps : List ℤ) (r c : Rational) → known steps r ≡ Some c → list_all is_within steps ≡ true
unfolding known
known_within steps r c e = (parts (list_all is_within steps) (nat_lt (denominator r) (2 ^ 120)) r c e).0

pub known_small : (steps : List ℤ) (r c : Rational) → known steps r ≡ Some c → denominator c < 2 ^ 120
unfolding known
known_small steps r c e =
    let h = parts (list_all is_within steps) (nat_lt (denominator r) (2 ^ 120)) r c e in
    subst (λ (x : Rational). denominator x < 2 ^ 120) (sym h.2) (ltb-true (denominator r) (2 ^ 120) h.1)

pub known_is : (steps : List ℤ) (r : Rational) → list_all is_within steps ≡ true → denominator r < 2 ^ 120
    → known steps r ≡ Some r
unfolding known
known_is steps r e h =
    ap (λ b. cond b (held r) None) e ∙ ap (λ b. cond b (Some r) None) (lt-ltb (denominator r) (2 ^ 120) h)
