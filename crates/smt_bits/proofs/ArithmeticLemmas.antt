-- What the lowest m of the machine's 128 bits are.
use Rattle.std.proofs.Common.{◌≡◌, ℕ, ◌+◌, ◌-◌, ◌*◌, ◌/◌, ◌%◌, ◌^◌, ◌<◌, ◌≤◌, sym, ap, ◌∙◌, arith, ne_eqb}
use Rattle.std.proofs.Common.{div-le_self, lt_of_le_of_lt, pow_pos, pow-add, add-mul, one-mul, div-add-mod'}
use Rattle.std.proofs.Math.Nat.{add-mod, add-mod_right, add-mul-mod_self_right, mod-eq_of_lt, mod-le, mul-add}
use Rattle.std.proofs.lemmas.Nat.{div-mul-add, mod-mul-add, mul-mod_second}
use Rattle.std.proofs.Math.Pow.{mod-mod-pow}
use Rattle.smt_bits.specs.Operators.{bvadd, bvmul, bvudiv, bvurem}

whole : (m : ℕ) → m ≤ 128 → 2 ^ 128 ≡ 2 ^ m + (2 ^ (128 - m) - 1) * 2 ^ m
whole m within =
    let p = 2 ^ (128 - m) in
    let some : 0 < p = pow_pos (128 - m) in
    let sum : 128 ≡ 128 - m + m = omega arith in
    let is : p ≡ 1 + (p - 1) = omega arith in
    ap (λ k. 2 ^ k) sum ∙ pow-add 2 (128 - m) m ∙ ap (λ x. x * 2 ^ m) is ∙ add-mul 1 (p - 1) (2 ^ m) ∙ ap
    (λ x. x + (p - 1) * 2 ^ m) (one-mul (2 ^ m))

pub shorter : (m n : ℕ) → m ≤ 128 → n % 2 ^ 128 % 2 ^ m ≡ n % 2 ^ m
shorter m n within =
    let sum : 128 ≡ 128 - m + m = omega arith in
    ap (λ k. n % 2 ^ k % 2 ^ m) sum ∙ mod-mod-pow n (128 - m) m

-- of `wrapping_sub`
pub difference : (m s t : ℕ) → m ≤ 128 → t < 2 ^ m
    → (s + (2 ^ 128 - t)) % 2 ^ 128 % 2 ^ m ≡ (s + (2 ^ m - t)) % 2 ^ m
difference m s t within below =
    let p = 2 ^ (128 - m) - 1 in
    let all = whole m within in
    let turned : s + (2 ^ 128 - t) ≡ s + (2 ^ m - t) + p * 2 ^ m = omega arith in
    shorter m (s + (2 ^ 128 - t)) within ∙ ap (λ n. n % 2 ^ m) turned ∙ add-mul-mod_self_right
    (s + (2 ^ m - t)) p (2 ^ m)

-- of `wrapping_neg`
pub negation : (m r s : ℕ) → m ≤ 128 → s < 2 ^ m → (r + s) % 2 ^ 128 ≡ 0 → r % 2 ^ m ≡ (2 ^ m - s) % 2 ^ m
negation m r s within below none =
    let k = (r + s) / 2 ^ m in
    let rest : (r + s) % 2 ^ m ≡ 0 = sym (shorter m (r + s) within) ∙ ap (λ n. n % 2 ^ m) none ∙ mod-eq_of_lt
    (pow_pos m) in
    let turned : r + 2 ^ m ≡ 2 ^ m - s + k * 2 ^ m = omega (arith, div-add-mod' (r + s) (2 ^ m)) in
    sym (add-mod_right r (2 ^ m)) ∙ ap (λ n. n % 2 ^ m) turned ∙ add-mul-mod_self_right (2 ^ m - s) k (2 ^ m)

-- of `MAX`
pub all_set : (m : ℕ) → m ≤ 128 → (2 ^ 128 - 1) % 2 ^ m ≡ 2 ^ m - 1
all_set m within =
    let p = 2 ^ (128 - m) - 1 in
    let some : 0 < 2 ^ m = pow_pos m in
    let turned : 2 ^ 128 - 1 ≡ 2 ^ m - 1 + p * 2 ^ m = omega (arith, whole m within) in
    ap (λ n. n % 2 ^ m) turned ∙ add-mul-mod_self_right (2 ^ m - 1) p (2 ^ m) ∙ mod-eq_of_lt (omega arith)

-- division by 0, and by another number
pub quotient_at_zero : (m s t : ℕ) → t ≡ 0 → bvudiv m s t ≡ 2 ^ m - 1
quotient_at_zero m s t none = ap (bvudiv m s) none

pub quotient : (m s t : ℕ) → (t ≡ 0 → ⊥) → s < 2 ^ m → s / t % 2 ^ m ≡ bvudiv m s t
quotient m s t some below = rw (ne_eqb t 0 some) (mod-eq_of_lt (lt_of_le_of_lt (div-le_self s t) below))

pub remainder : (m s t : ℕ) → (t ≡ 0 → ⊥) → s < 2 ^ m → s % t % 2 ^ m ≡ bvurem m s t
remainder m s t some below = rw (ne_eqb t 0 some) (mod-eq_of_lt (lt_of_le_of_lt (mod-le s t) below))

pub quotient_one : (m s t q r : ℕ) → s ≡ q * t + r → r < t → (q ≡ bvudiv m s t) × (r ≡ bvurem m s t)
quotient_one m s t q r is less =
    let some : t ≡ 0 → ⊥ = λ none. omega arith in (
      rw (ne_eqb t 0 some) (sym (ap (λ n. n / t) is ∙ div-mul-add q t r less)),
      rw (ne_eqb t 0 some)
          (sym (ap (λ n. n % t) is ∙ mod-mul-add q t r less)),
    )

-- a product with a sum
pub product_of_sum : (m s t u : ℕ) → bvmul m s (bvadd m t u) ≡ bvadd m (bvmul m s t) (bvmul m s u)
product_of_sum m s t u =
    mul-mod_second s (t + u) (2 ^ m) ∙ ap (λ n. n % 2 ^ m) (mul-add s t u)
    ∙ add-mod (s * t) (s * u) (2 ^ m)
