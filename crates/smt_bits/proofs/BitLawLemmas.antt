-- What the bit-wise operators make of two bits, and of numbers by their bits.
use Rattle.std.proofs.Common.{◌≡◌, ◌≢◌, ◌↔◌, ◌⊎◌, inl, inr, ℕ, zero, suc, ◌+◌, ◌-◌, ◌*◌, ◌%◌, ◌^◌, ◌<◌, ◌≤◌, refl}
use Rattle.std.proofs.Common.{Bool, true, false, cond, ap, ap₂, sym, subst, ◌∙◌, arith, pow_pos, pos}
use Rattle.std.proofs.Common.{◌-ℤ◌, ◌≤ℤ◌}
use Rattle.std.proofs.lemmas.Int.{ints}
use Rattle.std.proofs.Math.Nat.{mod-eq_of_lt, mod-one}
use Rattle.std.proofs.lemmas.Nat.{mod-pow-add}
use Rattle.std.proofs.lemmas.Nat.Bits.{bit_at-lt, same_from_bits_below}
use Rattle.std.specs.Int.{bit_at}
use Rattle.smt_bits.proofs.BitwiseLemmas.{and_below, bits_same, not_below, or_below}
use Rattle.smt_bits.proofs.BitwiseLemmas.{complement_is}
use Rattle.smt_bits.specs.BitVector.{is_negative, signed}
use Rattle.smt_bits.specs.Operators.{bvand, bvnand, bvneg, bvnor, bvnot, bvor, bvsdiv, bvxnor, bvxor}

-- ---- two bits

at_most : (b : ℕ) → b < 2 → b ≤ 1
at_most b h = omega arith

product : (a b : ℕ) → a < 2 → b < 2 → a * b ≤ 1
product zero b p q = omega arith
product (suc zero) b p q = omega arith
product (suc (suc a)) b p q = absurd (omega arith)

both : (a b : ℕ) → a < 2 → b < 2 → (a * b ≡ 1) ↔ ((a ≡ 1) × (b ≡ 1))
both zero b p q = (λ h. absurd (omega arith), λ h. absurd (omega arith))
both (suc zero) b p q = (λ h. (refl, omega arith), λ h. omega arith)
both (suc (suc a)) b p q = absurd (omega arith)

either : (a b : ℕ) → a < 2 → b < 2 → (1 - (1 - a) * (1 - b) ≡ 1) ↔ ((a ≡ 1) ⊎ (b ≡ 1))
either zero zero p q = (λ h. absurd (omega arith), λ h. omega arith)
either zero (suc zero) p q = (λ h. inr refl, λ h. refl)
either (suc zero) b p q = (λ h. inl refl, λ h. omega arith)
either (suc (suc a)) b p q = absurd (omega arith)
either a (suc (suc b)) p q = absurd (omega arith)

differing : (a b : ℕ) → a < 2 → b < 2 → ((a + b) % 2 ≡ 1) ↔ (a ≢ b)
differing zero zero p q = (λ h. absurd (omega arith), λ h. absurd (h refl))
differing zero (suc zero) p q = (λ h. λ e. omega arith, λ h. refl)
differing (suc zero) zero p q = (λ h. λ e. omega arith, λ h. refl)
differing (suc zero) (suc zero) p q = (λ h. absurd (omega arith), λ h. absurd (h refl))
differing (suc (suc a)) b p q = absurd (omega arith)
differing a (suc (suc b)) p q = absurd (omega arith)

not_both : (a b : ℕ) → a < 2 → b < 2 → (1 - a * b ≡ 0) ↔ ((a ≡ 1) × (b ≡ 1))
not_both a b p q =
    let few = product a b p q in
    let all = both a b p q in
    (λ h. all.0 (omega arith), λ h. (let e = all.1 h in omega arith))

neither : (a b : ℕ) → a < 2 → b < 2 → ((1 - a) * (1 - b) ≡ 0) ↔ ((a ≡ 1) ⊎ (b ≡ 1))
neither a b p q =
    let few : (1 - a) * (1 - b) ≤ 1 = product (1 - a) (1 - b) (omega arith) (omega arith) in
    let some = either a b p q in
    (λ h. some.0 (omega arith), λ h. (let e = some.1 h in omega arith))

equal : (a b : ℕ) → a < 2 → b < 2 → (1 - (a + b) % 2 ≡ 1) ↔ (a ≡ b)
equal zero zero p q = (λ h. refl, λ h. refl)
equal zero (suc zero) p q = (λ h. absurd (omega arith), λ h. absurd (omega arith))
equal (suc zero) zero p q = (λ h. absurd (omega arith), λ h. absurd (omega arith))
equal (suc zero) (suc zero) p q = (λ h. refl, λ h. refl)
equal (suc (suc a)) b p q = absurd (omega arith)
equal a (suc (suc b)) p q = absurd (omega arith)

-- ---- one bit of a result

pub not_at : (m s k : ℕ) → k < m → bit_at (bvnot m s) k ≡ 1 - bit_at s k
not_at m s k within = bits_same (λ i. 1 - bit_at s i) m k (λ i. omega arith) within

pub and_at : (m s t k : ℕ) → k < m → bit_at (bvand m s t) k ≡ bit_at s k * bit_at t k
and_at m s t k within =
    bits_same (λ i. bit_at s i * bit_at t i) m k
    (λ i. product (bit_at s i) (bit_at t i) (bit_at-lt s i) (bit_at-lt t i)) within

pub or_at : (m s t k : ℕ) → k < m → bit_at (bvor m s t) k ≡ 1 - (1 - bit_at s k) * (1 - bit_at t k)
or_at m s t k within =
    bits_same (λ i. 1 - (1 - bit_at s i) * (1 - bit_at t i)) m k (λ i. omega arith) within

pub not_by_bit : (m s k : ℕ) → k < m → (bit_at (bvnot m s) k ≡ 1) ↔ (bit_at s k ≡ 0)
not_by_bit m s k within =
    let few = bit_at-lt s k in
    let is = not_at m s k within in
    (λ h. omega arith, λ h. omega arith)

pub and_by_bit : (m s t k : ℕ) → k < m → (bit_at (bvand m s t) k ≡ 1) ↔ ((bit_at s k ≡ 1) × (bit_at t k ≡ 1))
and_by_bit m s t k within = subst (λ n. (n ≡ 1) ↔ ((bit_at s k ≡ 1) × (bit_at t k ≡ 1)))
    (sym (and_at m s t k within))
    (both (bit_at s k) (bit_at t k) (bit_at-lt s k) (bit_at-lt t k))

pub or_by_bit : (m s t k : ℕ) → k < m → (bit_at (bvor m s t) k ≡ 1) ↔ ((bit_at s k ≡ 1) ⊎ (bit_at t k ≡ 1))
or_by_bit m s t k within = subst (λ n. (n ≡ 1) ↔ ((bit_at s k ≡ 1) ⊎ (bit_at t k ≡ 1)))
    (sym (or_at m s t k within))
    (either (bit_at s k) (bit_at t k) (bit_at-lt s k) (bit_at-lt t k))

pub xor_by_bit : (m s t k : ℕ) → k < m → (bit_at (bvxor m s t) k ≡ 1) ↔ (bit_at s k ≢ bit_at t k)
xor_by_bit m s t k within = subst (λ n. (n ≡ 1) ↔ (bit_at s k ≢ bit_at t k))
    (sym (bits_same (λ i. (bit_at s i + bit_at t i) % 2) m k (λ i. omega arith) within))
    (differing (bit_at s k) (bit_at t k) (bit_at-lt s k) (bit_at-lt t k))

pub nand_by_bit : (m s t k : ℕ) → k < m → (bit_at (bvnand m s t) k ≡ 0) ↔ ((bit_at s k ≡ 1) × (bit_at t k ≡ 1))
nand_by_bit m s t k within = subst (λ n. (n ≡ 0) ↔ ((bit_at s k ≡ 1) × (bit_at t k ≡ 1)))
    (sym (bits_same (λ i. 1 - bit_at s i * bit_at t i) m k (λ i. omega arith) within))
    (not_both (bit_at s k) (bit_at t k) (bit_at-lt s k) (bit_at-lt t k))

pub nor_by_bit : (m s t k : ℕ) → k < m → (bit_at (bvnor m s t) k ≡ 0) ↔ ((bit_at s k ≡ 1) ⊎ (bit_at t k ≡ 1))
nor_by_bit m s t k within = subst (λ n. (n ≡ 0) ↔ ((bit_at s k ≡ 1) ⊎ (bit_at t k ≡ 1)))
    (sym (bits_same (λ i. (1 - bit_at s i) * (1 - bit_at t i)) m k
    (λ i. product (1 - bit_at s i) (1 - bit_at t i) (omega arith) (omega arith)) within))
    (neither (bit_at s k) (bit_at t k) (bit_at-lt s k) (bit_at-lt t k))

pub xnor_by_bit : (m s t k : ℕ) → k < m → (bit_at (bvxnor m s t) k ≡ 1) ↔ (bit_at s k ≡ bit_at t k)
xnor_by_bit m s t k within = subst (λ n. (n ≡ 1) ↔ (bit_at s k ≡ bit_at t k))
    (sym (bits_same (λ i. 1 - (bit_at s i + bit_at t i) % 2) m k (λ i. omega arith) within))
    (equal (bit_at s k) (bit_at t k) (bit_at-lt s k) (bit_at-lt t k))

-- ---- complements

turned_and : (a b : ℕ) → a < 2 → b < 2 → 1 - a * b ≡ 1 - (1 - (1 - a)) * (1 - (1 - b))
turned_and a b p q = let e : 1 - (1 - a) ≡ a = omega arith in let f : 1 - (1 - b) ≡ b = omega arith in rw (e, f) refl

turned_or : (a b : ℕ) → a < 2 → b < 2 → 1 - (1 - (1 - a) * (1 - b)) ≡ (1 - a) * (1 - b)
turned_or a b p q =
    let few : (1 - a) * (1 - b) ≤ 1 = product (1 - a) (1 - b) (omega arith) (omega arith) in omega arith

pub not_and : (m s t : ℕ) → bvnot m (bvand m s t) ≡ bvor m (bvnot m s) (bvnot m t)
not_and m s t = same_from_bits_below m (bvnot m (bvand m s t)) (bvor m (bvnot m s) (bvnot m t))
    (not_below m (bvand m s t)) (or_below m (bvnot m s) (bvnot m t))
    (λ k within. not_at m (bvand m s t) k within ∙ ap (λ b. 1 - b) (and_at m s t k within)
    ∙ turned_and (bit_at s k) (bit_at t k) (bit_at-lt s k) (bit_at-lt t k)
    ∙ ap₂ (λ a b. 1 - (1 - a) * (1 - b)) (sym (not_at m s k within)) (sym (not_at m t k within))
    ∙ sym (or_at m (bvnot m s) (bvnot m t) k within))

pub not_or : (m s t : ℕ) → bvnot m (bvor m s t) ≡ bvand m (bvnot m s) (bvnot m t)
not_or m s t = same_from_bits_below m (bvnot m (bvor m s t)) (bvand m (bvnot m s) (bvnot m t))
    (not_below m (bvor m s t)) (and_below m (bvnot m s) (bvnot m t))
    (λ k within. not_at m (bvor m s t) k within ∙ ap (λ b. 1 - b) (or_at m s t k within)
    ∙ turned_or (bit_at s k) (bit_at t k) (bit_at-lt s k) (bit_at-lt t k)
    ∙ ap₂ (λ a b. a * b) (sym (not_at m s k within)) (sym (not_at m t k within))
    ∙ sym (and_at m (bvnot m s) (bvnot m t) k within))

pub not_not : (m s : ℕ) → s < 2 ^ m → bvnot m (bvnot m s) ≡ s
not_not m s below =
    omega (arith, complement_is m s below, complement_is m (bvnot m s) (not_below m s))

-- ---- a sum

carried : (a b p : ℕ) → a < 2 → b < 2 → a * p + b * p ≡ (a + b) % 2 * p + 2 * (a * b * p)
carried zero zero p f g = omega arith
carried zero (suc zero) p f g = omega arith
carried (suc zero) zero p f g = omega arith
carried (suc zero) (suc zero) p f g = omega arith
carried (suc (suc a)) b p f g = absurd (omega arith)
carried a (suc (suc b)) p f g = absurd (omega arith)

lowest_sum : (m s t : ℕ) → s % 2 ^ m + t % 2 ^ m ≡ bvxor m s t + 2 * bvand m s t
lowest_sum zero s t = omega (arith, mod-one s, mod-one t)
lowest_sum (suc m) s t =
    let sum : suc m ≡ 1 + m = omega arith in
    let first : s % 2 ^ suc m ≡ bit_at s m * 2 ^ m + s % 2 ^ m = ap (λ k. s % 2 ^ k) sum ∙ mod-pow-add s 1 m in
    let second : t % 2 ^ suc m ≡ bit_at t m * 2 ^ m + t % 2 ^ m = ap (λ k. t % 2 ^ k) sum ∙ mod-pow-add t 1 m in
    let rest = lowest_sum m s t in
    omega (arith, carried (bit_at s m) (bit_at t m) (2 ^ m) (bit_at-lt s m) (bit_at-lt t m))

pub sum_is : (m s t : ℕ) → s < 2 ^ m → t < 2 ^ m → s + t ≡ bvxor m s t + 2 * bvand m s t
sum_is m s t p q = ap₂ (λ a b. a + b) (sym (mod-eq_of_lt p)) (sym (mod-eq_of_lt q)) ∙ lowest_sum m s t

-- ---- division by 0

pub all_ones : (m : ℕ) → 2 ^ m - 1 ≡ bvnot m 0
all_ones m = omega (arith, complement_is m 0 (pow_pos m), pow_pos m)

pub quotient_of_positive : (m s : ℕ) → s < 2 ^ m → pos 0 ≤ℤ signed m s → bvsdiv m s 0 ≡ bvneg m 1
quotient_of_positive m s below positive = by (is_negative m s) refl positive
  where
    small : (2 ^ m - 1) % 2 ^ m ≡ 2 ^ m - 1
    small = mod-eq_of_lt (omega (arith, pow_pos m))

    by : (b : Bool) → is_negative m s ≡ b → pos 0 ≤ℤ cond b (pos s -ℤ pos (2 ^ m)) (pos s)
        → cond b 1 (2 ^ m - 1) ≡ bvneg m 1
    by true e h = absurd (omega (arith, ints))
    by false e h = sym small
