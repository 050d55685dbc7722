-- The greatest common divisor, and what has none in common.
use Rattle.std.specs.Prelude.{◌≡◌, ℕ, ◌+◌, ◌*◌, ◌/◌, ◌%◌, ◌<◌, ◌≤◌, ◌==◌, zero, suc, refl, Bool, true}
use Rattle.std.specs.Prelude.{false, ◌&&◌, cond}
use Rattle.std.specs.Cmp.{first_so, second_so}
use Rattle.std.specs.Int.{IsGcd, ◌∣◌}
use Rattle.std.proofs.Common.{sym, ◌∙◌, ap, subst, arith}
use Rattle.std.proofs.lemmas.Bool.Decides.{Decides-eqb}
use Rattle.std.proofs.Math.Nat as nat
use Rattle.std.proofs.lemmas.Nat.Gcd.{dvd_antisymm, dvd_of_mod-eq-zero, IsGcd-from_mod, IsGcd-from_zero}
use Rattle.std.proofs.lemmas.Nat.Gcd.{le_of_dvd, mod-eq-zero_of_dvd, same_from_IsGcd}
use Rattle.smt_ratios.specs.Rational.{gcd, greatest_divisor}

below : (b n f : ℕ) → n < b → b < suc f → n < f
below b n f h k = omega arith

-- Euclid's algorithm, in so many steps
abbrev euclid_in : ℕ → ℕ → ℕ → ℕ
euclid_in zero a b = a
euclid_in (suc steps) a zero = a
euclid_in (suc steps) a (suc b) = euclid_in steps (suc b) (a % suc b)

euclid_in-IsGcd : (f a b : ℕ) → b < f → IsGcd a b (euclid_in f a b)
euclid_in-IsGcd zero a b h = absurd (omega arith)
euclid_in-IsGcd (suc f) a zero h = IsGcd-from_zero a 0 refl
euclid_in-IsGcd (suc f) a (suc b) h =
    IsGcd-from_mod a (suc b) _ (euclid_in-IsGcd f (suc b) (a % suc b) (below (suc b) _ f (nat.mod-lt a (omega arith)) h))

euclid : ℕ → ℕ → ℕ
euclid a b = euclid_in (b + 1) a b

euclid-IsGcd : (a b : ℕ) → IsGcd a b (euclid a b)
unfolding euclid
euclid-IsGcd a b = euclid_in-IsGcd (b + 1) a b (omega arith)

-- ---- it is the greatest number that divides both

divides : (k a : ℕ) → (a % suc k == 0) ≡ true → suc k ∣ a
divides k a e = dvd_of_mod-eq-zero (suc k) ((Decides-eqb (a % suc k) 0).0 e)

tested : (k a b : ℕ) → suc k ∣ a → suc k ∣ b → (a % suc k == 0 && b % suc k == 0) ≡ true
tested k a b p q =
    ap (λ t. t && b % suc k == 0) ((Decides-eqb (a % suc k) 0).1 (mod-eq-zero_of_dvd (suc k) p))
    ∙ (Decides-eqb (b % suc k) 0).1 (mod-eq-zero_of_dvd (suc k) q)

same_size : (k e : ℕ) → suc k ≤ e → e ≤ suc k → suc k ≡ e
same_size k e p q = omega arith

one_less : (k e : ℕ) → e ≤ suc k → (e ≡ suc k → ⊥) → e ≤ k
one_less k e p q = omega arith

found_at : (k a b e : ℕ) → IsGcd a b e → 0 < e → e ≤ suc k → (e ≤ k → greatest_divisor k a b ≡ e)
    → (t : Bool) → (a % suc k == 0 && b % suc k == 0) ≡ t → cond t (suc k) (greatest_divisor k a b) ≡ e
found_at k a b e is some low rest true h =
    same_size k e
    (le_of_dvd some (is.2 (suc k) (divides k a (first_so (a % suc k == 0) (b % suc k == 0) h)) (divides k b (second_so (a % suc k == 0) (b % suc k == 0) h))))
    low
found_at k a b e is some low rest false h =
    rest (one_less k e low (λ s.
    let p : suc k ∣ a = subst (λ (x : ℕ). x ∣ a) s is.0 in
    let q : suc k ∣ b = subst (λ (x : ℕ). x ∣ b) s is.1 in
    let t = tested k a b p q in
    absurd_of (sym h ∙ t)))
  where
    absurd_of : false ≡ true → ⊥
    absurd_of e = cc

found : (k a b e : ℕ) → IsGcd a b e → 0 < e → e ≤ k → greatest_divisor k a b ≡ e
found zero a b e is some low = absurd (omega arith)
found (suc k) a b e is some low = found_at k a b e is some low (found k a b e is some) (a % suc k == 0 && b % suc k == 0) refl

gcd-euclid : (a b : ℕ) → gcd a b ≡ euclid a b
unfolding gcd euclid
gcd-euclid zero zero = refl
gcd-euclid (suc a) zero =
    let is = euclid-IsGcd (suc a) zero in
    let low = le_of_dvd {n = suc a} (omega arith) is.0 in
    found (suc a + zero) (suc a) zero (euclid (suc a) zero) is (nat.pos_of_dvd_of_pos is.0 (omega arith)) (omega arith)
gcd-euclid a (suc b) =
    let is = euclid-IsGcd a (suc b) in
    let low = le_of_dvd {n = suc b} (omega arith) is.1 in
    found (a + suc b) a (suc b) (euclid a (suc b)) is (nat.pos_of_dvd_of_pos is.1 (omega arith)) (omega arith)

pub gcd-IsGcd : (a b : ℕ) → IsGcd a b (gcd a b)
gcd-IsGcd a b = subst (λ (g : ℕ). IsGcd a b g) (sym (gcd-euclid a b)) (euclid-IsGcd a b)

-- the remainder of multiples
scaled-rest : (k a b r q : ℕ) → 0 < k → r < b → b * q + r ≡ a → (k * a) % (k * b) ≡ k * r
scaled-rest k a b r q some low e =
    let whole : k * a ≡ k * b * q + k * r = ap (λ x. k * x) (sym e) ∙ omega arith in
    ap (λ x. x % (k * b)) whole ∙ nat.mul-add-mod_self_left (k * b) q (k * r)
    ∙ nat.mod-eq_of_lt (nat.mul-lt-mul_of_pos_left low some)

scaled-mod : (k a b : ℕ) → 0 < k → 0 < b → (k * a) % (k * b) ≡ k * (a % b)
scaled-mod k a b some over = scaled-rest k a b (a % b) (a / b) some (nat.mod-lt a over) (nat.div-add-mod a b)

-- multiples have the multiple as their greatest common divisor
scaled_in : (k f a b : ℕ) → 0 < k → b < f → IsGcd (k * a) (k * b) (k * euclid_in f a b)
scaled_in k zero a b some h = absurd (omega arith)
scaled_in k (suc f) a zero some h = IsGcd-from_zero (k * a) (k * 0) (omega arith)
scaled_in k (suc f) a (suc b) some h =
    IsGcd-from_mod (k * a) (k * suc b) _
    (subst (λ m. IsGcd (k * suc b) m (k * euclid_in f (suc b) (a % suc b)))
    (sym (scaled-mod k a (suc b) some (omega arith)))
    (scaled_in k f (suc b) (a % suc b) some (below (suc b) _ f (nat.mod-lt a (omega arith)) h)))

by_euclid : (k a b : ℕ) → 0 < k → IsGcd (k * a) (k * b) (k * euclid a b)
unfolding euclid
by_euclid k a b some = scaled_in k (b + 1) a b some (omega arith)

pub scaled : (k a b : ℕ) → 0 < k → IsGcd (k * a) (k * b) (k * gcd a b)
scaled k a b some = subst (λ (g : ℕ). IsGcd (k * a) (k * b) (k * g)) (sym (gcd-euclid a b)) (by_euclid k a b some)

-- what has nothing in common with a factor divides the other
pub other_factor : (a b k : ℕ) → 0 < k → IsGcd a b 1 → b ∣ k * a → b ∣ k
other_factor a b k some alone h =
    let one : gcd a b ≡ 1 = same_from_IsGcd a b _ _ (gcd-IsGcd a b) alone in
    let all : b ∣ k * gcd a b = (scaled k a b some).2 b h (nat.dvd-mul_left b k) in
    let e : k * gcd a b ≡ k = ap (λ x. k * x) one ∙ nat.mul-one k in
    subst (λ x. b ∣ x) e all

divides-product : (a b c d : ℕ) → a * d ≡ c * b → b ∣ d * a
divides-product a b c d e = subst (λ x. b ∣ x) (sym e ∙ nat.mul_comm a d) (nat.dvd-mul_left b c)

-- lowest terms are one
pub same_terms : (a b c d : ℕ) → 0 < b → 0 < d → IsGcd a b 1 → IsGcd c d 1 → a * d ≡ c * b → (a ≡ c) × (b ≡ d)
same_terms a b c d p q f g e =
    let below : b ∣ d = other_factor a b d q f (divides-product a b c d e) in
    let above : d ∣ b = other_factor c d b p g (divides-product c d a b (sym e)) in
    let bottom : b ≡ d = dvd_antisymm below above in
    (nat.eq_of_mul-eq-mul_right d q a c (e ∙ ap (λ x. c * x) bottom), bottom)

-- what is left of two numbers that are divided by their greatest common divisor has nothing in common
pub rest_alone : (a b : ℕ) → 0 < gcd a b → IsGcd (a / gcd a b) (b / gcd a b) 1
rest_alone a b some =
    let is : IsGcd a b (gcd a b) = gcd-IsGcd a b in
    let g : ℕ = gcd a b in
    let x : ℕ = a / gcd a b in
    let y : ℕ = b / gcd a b in
    let p : gcd a b * (a / gcd a b) ≡ a = nat.mul-div_cancel' (gcd a b) is.0 in
    let q : gcd a b * (b / gcd a b) ≡ b = nat.mul-div_cancel' (gcd a b) is.1 in
    let wide : IsGcd (gcd a b * (a / gcd a b)) (gcd a b * (b / gcd a b))
    (gcd a b * gcd (a / gcd a b) (b / gcd a b)) =
    scaled (gcd a b) (a / gcd a b) (b / gcd a b) some in
    let back : IsGcd a b (gcd a b * gcd (a / gcd a b) (b / gcd a b)) =
    subst (λ n. IsGcd a n (gcd a b * gcd (a / gcd a b) (b / gcd a b))) q
    (subst (λ n. IsGcd n (gcd a b * (b / gcd a b)) (gcd a b * gcd (a / gcd a b) (b / gcd a b))) p wide) in
    let e : gcd a b * gcd (a / gcd a b) (b / gcd a b) ≡ gcd a b * 1 = same_from_IsGcd a b _ _ back is ∙ sym (nat.mul-one (gcd a b)) in
    let one : gcd (a / gcd a b) (b / gcd a b) ≡ 1 = nat.eq_of_mul-eq-mul_left (gcd a b) some _ 1 e in
    subst (λ n. IsGcd (a / gcd a b) (b / gcd a b) n) one (gcd-IsGcd (a / gcd a b) (b / gcd a b))

-- it is over 0, and no more than the second
pub gcd-over_zero : (a b : ℕ) → 0 < b → 0 < gcd a b
gcd-over_zero a b some = nat.pos_of_dvd_of_pos (gcd-IsGcd a b).1 some

pub gcd-at_most : (a b : ℕ) → 0 < b → gcd a b ≤ b
gcd-at_most a b some = le_of_dvd some (gcd-IsGcd a b).1
