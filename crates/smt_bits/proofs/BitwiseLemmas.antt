-- Numbers by their bits.
use Rattle.std.proofs.Common.{◌≡◌, ℕ, zero, suc, ◌+◌, ◌-◌, ◌*◌, ◌%◌, ◌^◌, ◌<◌, ◌≤◌, min, max, bit_and, bit_or}
use Rattle.std.proofs.Common.{bit_xor, refl, ap, ap₂, sym, ⊎_elim, ◌∙◌, arith, add_comm, mul-le-mul_right}
use Rattle.std.proofs.Common.{pow-suc, lt_of_le_of_lt, lt_of_lt_of_le}
use Rattle.std.proofs.Math.Nat.{mod-eq_of_lt, mod-one}
use Rattle.std.proofs.lemmas.Bool.{cases_lt}
use Rattle.std.proofs.lemmas.Nat.{and_le_l, mod-pow-add, mul-le, or_lt, xor_lt}
use Rattle.std.proofs.lemmas.Nat.Bits.{bit_at-lt, bit_at_and, bit_at_cat_high, bit_at_cat_low, bit_at_lowest}
use Rattle.std.proofs.lemmas.Nat.Bits.{bit_at_not, bit_at_or, bit_at_xor}
use Rattle.std.specs.Int.{bit_at, bit_not, w128}
use Rattle.smt_bits.specs.BitVector.{from_bits}
use Rattle.smt_bits.specs.Operators.{bvand, bvnand, bvnor, bvnot, bvor, bvxnor, bvxor}

-- the lowest m bits of a number that has these bits
pub same_bits : (bit : ℕ → ℕ) (n m : ℕ) → ((i : ℕ) → i < m → bit_at n i ≡ bit i) → n % 2 ^ m ≡ from_bits bit m
same_bits bit n zero same = mod-one n
same_bits bit n (suc m) same =
    let sum : suc m ≡ 1 + m = omega arith in
    let below : (i : ℕ) → i < m → bit_at n i ≡ bit i = λ i h. same i (omega arith) in
    let rest = same_bits bit n m below in
    let highest = same m (omega arith) in
    ap (λ k. n % 2 ^ k) sum ∙ mod-pow-add n 1 m ∙ ap₂ (λ b r. b * 2 ^ m + r) highest rest ∙ add_comm
    (bit m * 2 ^ m) (from_bits bit m)

-- what the machine's operators make of two bits
both : (a b : ℕ) → a < 2 → b < 2 → min a b ≡ a * b
both zero zero p q = refl
both zero (suc zero) p q = refl
both (suc zero) zero p q = refl
both (suc zero) (suc zero) p q = refl
both (suc (suc a)) b p q = absurd (omega arith)
both a (suc (suc b)) p q = absurd (omega arith)

either : (a b : ℕ) → a < 2 → b < 2 → max a b ≡ 1 - (1 - a) * (1 - b)
either zero zero p q = refl
either zero (suc zero) p q = refl
either (suc zero) zero p q = refl
either (suc zero) (suc zero) p q = refl
either (suc (suc a)) b p q = absurd (omega arith)
either a (suc (suc b)) p q = absurd (omega arith)

neither : (a b : ℕ) → a < 2 → b < 2 → 1 - max a b ≡ (1 - a) * (1 - b)
neither zero zero p q = refl
neither zero (suc zero) p q = refl
neither (suc zero) zero p q = refl
neither (suc zero) (suc zero) p q = refl
neither (suc (suc a)) b p q = absurd (omega arith)
neither a (suc (suc b)) p q = absurd (omega arith)

and_at : (s t i : ℕ) → bit_at (bit_and s t) i ≡ bit_at s i * bit_at t i
and_at s t i = bit_at_and s t i ∙ both (bit_at s i) (bit_at t i) (bit_at-lt s i) (bit_at-lt t i)

pub not_is : (m s : ℕ) → m ≤ 128 → s < 2 ^ 128 → bit_not w128 s % 2 ^ m ≡ bvnot m s
not_is m s within fits = same_bits (λ i. 1 - bit_at s i) (bit_not w128 s) m
    (λ i h. bit_at_not w128 s i fits (lt_of_lt_of_le h within))

pub and_is : (m s t : ℕ) → bit_and s t % 2 ^ m ≡ bvand m s t
and_is m s t = same_bits (λ i. bit_at s i * bit_at t i) (bit_and s t) m (λ i h. and_at s t i)

pub or_is : (m s t : ℕ) → bit_or s t % 2 ^ m ≡ bvor m s t
or_is m s t = same_bits (λ i. 1 - (1 - bit_at s i) * (1 - bit_at t i)) (bit_or s t) m
    (λ i h. bit_at_or s t i ∙ either (bit_at s i) (bit_at t i) (bit_at-lt s i) (bit_at-lt t i))

pub xor_is : (m s t : ℕ) → bit_xor s t % 2 ^ m ≡ bvxor m s t
xor_is m s t = same_bits (λ i. (bit_at s i + bit_at t i) % 2) (bit_xor s t) m (λ i h. bit_at_xor s t i)

pub nand_is : (m s t : ℕ) → m ≤ 128 → s < 2 ^ 128 → bit_not w128 (bit_and s t) % 2 ^ m ≡ bvnand m s t
nand_is m s t within fits =
    let all : bit_and s t < 2 ^ 128 = lt_of_le_of_lt (and_le_l s t) fits in
    same_bits (λ i. 1 - bit_at s i * bit_at t i) (bit_not w128 (bit_and s t)) m
    (λ i h. bit_at_not w128 (bit_and s t) i all (lt_of_lt_of_le h within) ∙ ap (λ b. 1 - b) (and_at s t i))

pub nor_is : (m s t : ℕ) → m ≤ 128 → s < 2 ^ 128 → t < 2 ^ 128
    → bit_not w128 (bit_or s t) % 2 ^ m ≡ bvnor m s t
nor_is m s t within s_fits t_fits =
    let all = or_lt 128 s t s_fits t_fits in
    same_bits (λ i. (1 - bit_at s i) * (1 - bit_at t i)) (bit_not w128 (bit_or s t)) m
    (λ i h. bit_at_not w128 (bit_or s t) i all (lt_of_lt_of_le h within) ∙ ap (λ b. 1 - b) (bit_at_or s t i)
    ∙ neither (bit_at s i) (bit_at t i) (bit_at-lt s i) (bit_at-lt t i))

pub xnor_is : (m s t : ℕ) → m ≤ 128 → s < 2 ^ 128 → t < 2 ^ 128
    → bit_not w128 (bit_xor s t) % 2 ^ m ≡ bvxnor m s t
xnor_is m s t within s_fits t_fits =
    let all = xor_lt 128 s t s_fits t_fits in
    same_bits (λ i. 1 - (bit_at s i + bit_at t i) % 2) (bit_not w128 (bit_xor s t)) m
    (λ i h. bit_at_not w128 (bit_xor s t) i all (lt_of_lt_of_le h within) ∙ ap (λ b. 1 - b)
    (bit_at_xor s t i))

-- a number that is made from bits
pub bits_below : (bit : ℕ → ℕ) (m : ℕ) → ((k : ℕ) → bit k ≤ 1) → from_bits bit m < 2 ^ m
bits_below bit zero each = omega arith
bits_below bit (suc m) each =
    let rest = bits_below bit m each in
    let highest : bit m * 2 ^ m ≤ 1 * 2 ^ m = mul-le-mul_right (2 ^ m) (each m) in
    omega (arith, pow-suc 2 m)

pub bits_same : (bit : ℕ → ℕ) (m i : ℕ) → ((k : ℕ) → bit k ≤ 1) → i < m → bit_at (from_bits bit m) i ≡ bit i
bits_same bit zero i each within = absurd (omega arith)
bits_same bit (suc m) i each within = ap (λ n. bit_at n i) (add_comm (from_bits bit m) (bit m * 2 ^ m)) ∙
    ⊎_elim (lower (bits_same bit m i each)) highest (cases_lt i m)
  where
    lower : (i < m → bit_at (from_bits bit m) i ≡ bit i) → i < m
        → bit_at (bit m * 2 ^ m + from_bits bit m) i ≡ bit i
    lower rest h = bit_at_cat_low (bit m) m (from_bits bit m) i h ∙ rest h

    highest : m ≤ i → bit_at (bit m * 2 ^ m + from_bits bit m) i ≡ bit i
    highest h =
        let first : i - m ≡ 0 = omega arith in
        let is : i ≡ m = omega arith in
        let few : bit m < 2 = omega (arith, each m) in
        bit_at_cat_high (bit m) m (from_bits bit m) i (bits_below bit m each) h
        ∙ ap (bit_at (bit m)) first ∙ bit_at_lowest (bit m) ∙ mod-eq_of_lt few ∙ ap bit (sym is)

product_below : (a b : ℕ) → a ≤ 1 → b ≤ 1 → a * b ≤ 1
product_below a b p q = mul-le a b 1 1 p q

pub not_below : (m s : ℕ) → bvnot m s < 2 ^ m
not_below m s = bits_below (λ i. 1 - bit_at s i) m (λ i. omega arith)

pub and_below : (m s t : ℕ) → bvand m s t < 2 ^ m
and_below m s t = bits_below (λ i. bit_at s i * bit_at t i) m
    (λ i. product_below (bit_at s i) (bit_at t i) (omega (arith, bit_at-lt s i))
    (omega (arith, bit_at-lt t i)))

pub or_below : (m s t : ℕ) → bvor m s t < 2 ^ m
or_below m s t = bits_below (λ i. 1 - (1 - bit_at s i) * (1 - bit_at t i)) m (λ i. omega arith)

pub xor_below : (m s t : ℕ) → bvxor m s t < 2 ^ m
xor_below m s t = bits_below (λ i. (bit_at s i + bit_at t i) % 2) m (λ i. omega arith)

pub nand_below : (m s t : ℕ) → bvnand m s t < 2 ^ m
nand_below m s t = bits_below (λ i. 1 - bit_at s i * bit_at t i) m (λ i. omega arith)

pub nor_below : (m s t : ℕ) → bvnor m s t < 2 ^ m
nor_below m s t = bits_below (λ i. (1 - bit_at s i) * (1 - bit_at t i)) m
    (λ i. product_below (1 - bit_at s i) (1 - bit_at t i) (omega arith) (omega arith))

pub xnor_below : (m s t : ℕ) → bvxnor m s t < 2 ^ m
xnor_below m s t = bits_below (λ i. 1 - (bit_at s i + bit_at t i) % 2) m (λ i. omega arith)

-- a bit and its complement
one_of_two : (b p : ℕ) → b < 2 → (1 - b) * p + b * p ≡ p
one_of_two zero p h = omega arith
one_of_two (suc zero) p h = omega arith
one_of_two (suc (suc b)) p h = absurd (omega arith)

complement_and_rest : (m s : ℕ) → bvnot m s + s % 2 ^ m + 1 ≡ 2 ^ m
complement_and_rest zero s = ap (λ n. 0 + n + 1) (mod-one s)
complement_and_rest (suc m) s =
    let sum : suc m ≡ 1 + m = omega arith in
    let number : s % 2 ^ suc m ≡ bit_at s m * 2 ^ m + s % 2 ^ m = ap (λ k. s % 2 ^ k) sum ∙ mod-pow-add s 1 m
    in
    let rest = complement_and_rest m s in
    omega (arith, one_of_two (bit_at s m) (2 ^ m) (bit_at-lt s m), pow-suc 2 m)

pub complement_is : (m s : ℕ) → s < 2 ^ m → bvnot m s + 1 ≡ 2 ^ m - s
complement_is m s below = omega (arith, complement_and_rest m s, mod-eq_of_lt below)
