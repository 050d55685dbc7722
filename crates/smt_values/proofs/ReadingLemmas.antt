-- Numbers modulo 2 ^ m, and the quotients and remainders that are the only ones.
use Rattle.std.proofs.Common.{◌≡◌, ◌≢◌, ◌↔◌, ℕ, ◌+◌, ◌-◌, ◌*◌, ◌/◌, ◌^◌, ◌<◌, ◌≤◌, ℤ, pos}
use Rattle.std.proofs.Common.{◌+ℤ◌, ◌*ℤ◌, sym, ap, subst, ◌∙◌, arith}
use Rattle.std.proofs.Common.{div-add-mod', pow_pos}
use Rattle.std.proofs.lemmas.Int.{ints}
use Rattle.std.proofs.lemmas.Nat.{div-mul-add, mod_below}
use Rattle.std.specs.Int.{int_rem_euclid}
use Rattle.smt_bits.specs.BitVector.{vector}
use Rattle.smt_bits.specs.Readings.{IsModulo}
use Rattle.smt_values.proofs.DivisionLemmas.{euclid_one}
use Rattle.smt_values.specs.Element.{Vector}
use Rattle.smt_values.specs.Readings.{number_of}

-- ---- one number alone

same_number : (m a r : ℕ) → Vector (vector m a) ≡ Vector (vector m r) → a ≡ r
same_number m a r e = ap number_of e

-- a result that has what at most one number has
pub only : (m : ℕ) (P : ℕ → Type 0) (a r : ℕ) → P a → (P r → r ≡ a)
    → (Vector (vector m a) ≡ Vector (vector m r)) ↔ P r
only m P a r has one =
    (λ e. subst P (same_number m a r e) has, λ h. ap (λ n. Vector (vector m n)) (sym (one h)))

-- ---- modulo 2 ^ m

some_power : (m : ℕ) → pos (2 ^ m) ≢ pos 0
some_power m none = absurd (let some : 0 < 2 ^ m = pow_pos m in omega (arith, ints))

swapped : (z k : ℤ) (w r : ℕ) → z ≡ pos r +ℤ k *ℤ pos w → z ≡ pos w *ℤ k +ℤ pos r
swapped z k w r e = omega (arith, ints)

same_pos : (a r : ℕ) (x : ℤ) → pos a ≡ x → pos r ≡ x → r ≡ a
same_pos a r x p q = cc

pub modulo_one : (m : ℕ) (z : ℤ) (a r : ℕ) → IsModulo m z a → IsModulo m z r → r ≡ a
modulo_one m z a r x y =
    let first = euclid_one z (pos (2 ^ m)) x.multiple.0 a (some_power m)
    (swapped z x.multiple.0 (2 ^ m) a x.multiple.1) x.below in
    let second = euclid_one z (pos (2 ^ m)) y.multiple.0 r (some_power m)
    (swapped z y.multiple.0 (2 ^ m) r y.multiple.1) y.below in
    same_pos a r (int_rem_euclid z (pos (2 ^ m))) first.1 second.1

-- a result that is a number modulo 2 ^ m
pub modulo_only : (m a r : ℕ) (z : ℤ) → IsModulo m z a
    → (Vector (vector m a) ≡ Vector (vector m r)) ↔ IsModulo m z r
modulo_only m a r z has = only m (λ x. IsModulo m z x) a r has (modulo_one m z a r has)

-- ---- quotients of numbers

pub all_ones_only : (m q : ℕ) → (Vector (vector m (2 ^ m - 1)) ≡ Vector (vector m q)) ↔ (q + 1 ≡ 2 ^ m)
all_ones_only m q =
    let some : 0 < 2 ^ m = pow_pos m in
    only m (λ x. x + 1 ≡ 2 ^ m) (2 ^ m - 1) q (omega arith) (λ h. omega arith)

abbrev IsWholePart : ℕ → ℕ → ℕ → Type 0
IsWholePart w s r = (r * w ≤ s) × (s < (r + 1) * w)

whole_part : (w s : ℕ) → 0 < w → IsWholePart w s (s / w)
whole_part w s some =
    let low = mod_below s w some in
    (omega (arith, div-add-mod' s w), omega (arith, div-add-mod' s w))

whole_part_one : (w s r : ℕ) → IsWholePart w s r → r ≡ s / w
whole_part_one w s r h =
    let is : s ≡ r * w + (s - r * w) = omega (arith, h.0) in
    sym (ap (λ x. x / w) is ∙ div-mul-add r w (s - r * w) (omega (arith, h.0, h.1)))

pub shift_right_only : (m s t r : ℕ)
    → (Vector (vector m (s / 2 ^ t)) ≡ Vector (vector m r)) ↔ ((r * 2 ^ t ≤ s) × (s < (r + 1) * 2 ^ t))
shift_right_only m s t r = only m (IsWholePart (2 ^ t) s) (s / 2 ^ t) r (whole_part (2 ^ t) s (pow_pos t))
    (whole_part_one (2 ^ t) s r)
