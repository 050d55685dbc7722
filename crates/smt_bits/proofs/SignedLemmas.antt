-- Between the signed reading and the machine's signed numbers of 128 bits.
use Rattle.std.proofs.Common.{◌≡◌, ℕ, zero, suc, ◌+◌, ◌-◌, ◌*◌, ◌/◌, ◌%◌, ◌^◌, ◌<◌, ◌≤◌, ℤ, pos, negsuc, ◌-ℤ◌}
use Rattle.std.proofs.Common.{FitsSigned, cond, leb, ltb, refl, sym, ap, ◌∙◌, ⊎_elim, arith, lt-ltb, le-ltb}
use Rattle.std.proofs.Common.{le-leb, pow_pos, pow-add, add-mul, mul_comm, pow-suc, mul-lt-mul_of_pos_right}
use Rattle.std.proofs.Common.{mul-le-mul_right, div-add-mod', lt_of_le_of_lt}
use Rattle.std.proofs.lemmas.Bool.{cases_lt, lt-leb}
use Rattle.std.proofs.lemmas.Int.{ints}
use Rattle.std.proofs.lemmas.Nat.{div-mul-add, mod-mul-add, mod_below, shl_whole, div_below}
use Rattle.std.specs.Int.{Width, w128, cast_signed, cast_unsigned, int_shr}
use Rattle.smt_bits.specs.BitVector.{modulo, signed}
use mir.Val.{sel}
use lib.Signed.{shr_z, mag_shr}

pub fits_shr : (w : Width) (z : ℤ) (k : ℕ) → FitsSigned w z → FitsSigned w (int_shr z k)
fits_shr w z k fits = record { sfits = lt_of_le_of_lt (mag_shr z (2 ^ k)) fits.sfits }

-- n * q below 2 * p * q, down by q with copies of the sign, is n below 2 * p
nonnegative : (p q n H W M N : ℕ) → 0 < q → N ≡ n * q → H ≡ p * q → M ≡ 2 * p → n < p
    → shr_z (sel (ltb N H) (pos N) (negsuc (W - suc N))) q ≡ cond (leb M (2 * n)) (pos n -ℤ pos M) (pos n)
nonnegative p q n H W M N some number half all small =
    let product : n * q < p * q = mul-lt-mul_of_pos_right small some in
    let shown : N ≡ n * q + 0 = omega arith in
    rw (lt-ltb N H (omega arith), lt-leb M (2 * n) (omega arith))
    (ap pos (ap (λ x. x / q) shown ∙ div-mul-add n q 0 some))

negative : (p q n H W M N : ℕ) → 0 < q → N ≡ n * q → H ≡ p * q → M ≡ 2 * p → W ≡ 2 * (p * q) → p ≤ n → n < M
    → shr_z (sel (ltb N H) (pos N) (negsuc (W - suc N))) q ≡ cond (leb M (2 * n)) (pos n -ℤ pos M) (pos n)
negative p q n H W M N some number half all double large below =
    let up : p * q ≤ n * q = mul-le-mul_right q large in
    let k = M - suc n in
    let is : k + (n + 1) ≡ p + p = omega arith in
    let whole = sym (add-mul k (n + 1) q) ∙ ap (λ x. x * q) is ∙ add-mul p p q in
    let turned : W - suc N ≡ k * q + (q - 1) = omega (arith, add-mul n 1 q) in
    let left : pos n -ℤ pos M ≡ negsuc k = omega (arith, ints) in
    rw (le-ltb N H (omega arith), le-leb M (2 * n) (omega arith), turned, left)
    (ap negsuc (div-mul-add k q (q - 1) (omega arith)))

shifted : (p q n H W M N : ℕ) → 0 < q → N ≡ n * q → H ≡ p * q → M ≡ 2 * p → W ≡ 2 * (p * q) → n < M
    → shr_z (sel (ltb N H) (pos N) (negsuc (W - suc N))) q ≡ cond (leb M (2 * n)) (pos n -ℤ pos M) (pos n)
shifted p q n H W M N some number half all double below =
    ⊎_elim (λ small. nonnegative p q n H W M N some number half all small)
    (λ large. negative p q n H W M N some number half all double large below) (cases_lt n p)

-- n of m bits, up to the highest of the 128 bits and down with copies of the sign
pub signed_by_shifts : (m k n : ℕ) → 1 ≤ m → m + k ≡ 128 → n < 2 ^ m
    → int_shr (cast_signed w128 (n * 2 ^ k % 2 ^ 128)) k ≡ signed m n
signed_by_shifts zero k n some is below = absurd (omega arith)
signed_by_shifts (suc h) k n some is below =
    let sum : 127 ≡ h + k = omega arith in
    let half : 2 ^ 127 ≡ 2 ^ h * 2 ^ k = ap (λ x. 2 ^ x) sum ∙ pow-add 2 h k in
    let all : 2 ^ suc h ≡ 2 * 2 ^ h = pow-suc 2 h ∙ mul_comm (2 ^ h) 2 in
    let whole : n * 2 ^ k % 2 ^ 128 ≡ n * 2 ^ k = shl_whole n (suc h) k 128 below (omega arith) in
    shifted (2 ^ h) (2 ^ k) n (2 ^ 127) (2 ^ 128) (2 ^ suc h) (n * 2 ^ k % 2 ^ 128) (pow_pos k) whole half all
    (omega arith) below

turned_modulo : (p q n : ℕ) → 0 < q → n < p * q → (p * q - suc n) % q ≡ q - 1 - n % q
turned_modulo p q n some below =
    let r = n % q in
    let less : r < q = mod_below n q some in
    let fits : n / q < p = div_below n q p some below in
    let k = p - suc (n / q) in
    let is : k + (n / q + 1) ≡ p = omega arith in
    let whole = sym (add-mul k (n / q + 1) q) ∙ ap (λ x. x * q) is in
    let turned : p * q - suc n ≡ k * q + (q - 1 - r) = omega (arith, add-mul (n / q) 1 q, div-add-mod' n q) in
    ap (λ x. x % q) turned ∙ mod-mul-add k q (q - 1 - r) (omega arith)

-- an integer modulo 2 ^ m is the lowest m bits of the machine's number
pub cast_modulo : (m : ℕ) (z : ℤ) → m ≤ 128 → FitsSigned w128 z → cast_unsigned w128 z % 2 ^ m ≡ modulo m z
cast_modulo m (pos n) within fits = refl
cast_modulo m (negsuc n) within fits =
    let sum : 128 - m + m ≡ 128 = omega arith in
    let whole : 2 ^ (128 - m) * 2 ^ m ≡ 2 ^ 128 = sym (pow-add 2 (128 - m) m) ∙ ap (λ x. 2 ^ x) sum in
    let small : n < 2 ^ 127 = fits.sfits in
    ap (λ x. (x - suc n) % 2 ^ m) (sym whole) ∙ turned_modulo (2 ^ (128 - m)) (2 ^ m) n (pow_pos m)
    (omega arith)
