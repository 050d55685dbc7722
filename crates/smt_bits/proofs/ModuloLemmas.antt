-- The arithmetic that is modulo 2 ^ m.
use Rattle.std.proofs.Common.{◌≡◌, ℕ, zero, suc, ◌+◌, ◌-◌, ◌*◌, ◌/◌, ◌%◌, ◌^◌, ◌<◌, ℤ, pos, negsuc, ◌+ℤ◌, ◌-ℤ◌}
use Rattle.std.proofs.Common.{◌*ℤ◌, neg_ℤ, refl, sym, ap, ◌∙◌, arith, div-add-mod'}
use Rattle.std.proofs.lemmas.Int.{ints}
use Rattle.std.proofs.lemmas.Nat.{mod_below, pow_pos}
use Rattle.smt_bits.specs.Operators.{bvadd, bvmul, bvneg, bvshl, bvsub}
use Rattle.smt_bits.specs.Readings.{IsModulo}

exact : (w q r : ℕ) (z : ℤ) → z ≡ pos (q * w + r) → z ≡ pos r +ℤ pos q *ℤ pos w
exact w q r z is = omega (arith, ints)

-- where z is a number
pub modulo_of : (m n : ℕ) (z : ℤ) → z ≡ pos n → IsModulo m z (n % 2 ^ m)
modulo_of m n z is = record {
  below = mod_below n (2 ^ m) (pow_pos m);
  multiple = (
    pos (n / 2 ^ m),
    exact (2 ^ m) (n / 2 ^ m) (n % 2 ^ m) z (is ∙ ap pos (sym (div-add-mod' n (2 ^ m)))),
  );
}

abbrev one_less : ℕ → ℤ
one_less zero = negsuc 0
one_less (suc q) = pos q

lowered : (w q r : ℕ) (z : ℤ) → z +ℤ pos w ≡ pos (q * w + r) → z ≡ pos r +ℤ one_less q *ℤ pos w
lowered w zero r z is = omega (arith, ints)
lowered w (suc q) r z is = omega (arith, ints)

-- where z and 2 ^ m are a number together
modulo_under : (m n : ℕ) (z : ℤ) → z +ℤ pos (2 ^ m) ≡ pos n → IsModulo m z (n % 2 ^ m)
modulo_under m n z is = record {
  below = mod_below n (2 ^ m) (pow_pos m);
  multiple = (
    one_less (n / 2 ^ m),
    lowered (2 ^ m) (n / 2 ^ m) (n % 2 ^ m) z (is ∙ ap pos (sym (div-add-mod' n (2 ^ m)))),
  );
}

pub add_is : (m s t : ℕ) → IsModulo m (pos s +ℤ pos t) (bvadd m s t)
add_is m s t = modulo_of m (s + t) (pos s +ℤ pos t) refl

pub mul_is : (m s t : ℕ) → IsModulo m (pos s *ℤ pos t) (bvmul m s t)
mul_is m s t = modulo_of m (s * t) (pos s *ℤ pos t) refl

pub sub_is : (m s t : ℕ) → s < 2 ^ m → t < 2 ^ m → IsModulo m (pos s -ℤ pos t) (bvsub m s t)
sub_is m s t fits below = modulo_under m (s + (2 ^ m - t)) (pos s -ℤ pos t) (omega (arith, ints))

pub neg_is : (m s : ℕ) → s < 2 ^ m → IsModulo m (neg_ℤ (pos s)) (bvneg m s)
neg_is m s below = modulo_under m (2 ^ m - s) (neg_ℤ (pos s)) (omega (arith, ints))

pub shl_is : (m s t : ℕ) → IsModulo m (pos s *ℤ pos (2 ^ t)) (bvshl m s t)
shl_is m s t = modulo_of m (s * 2 ^ t) (pos s *ℤ pos (2 ^ t)) refl
