-- SMT-LIB 2.6, theory FixedSizeBitVectors and logic QF_BV: what the operators make of bit vectors, and whether it
-- overflows (SMT-LIB 2.7). s and t are numbers of m bits, unless another width is said; a number stands for its bits,
-- or for an integer modulo 2 ^ m.
use Rattle.std.specs.Prelude.{ℕ, zero, suc, ◌+◌, ◌-◌, ◌*◌, ◌/◌, ◌%◌, ◌^◌, ℤ, pos, ◌+ℤ◌, ◌-ℤ◌, ◌*ℤ◌, neg_ℤ, int_le}
use Rattle.std.specs.Prelude.{int_lt, int_div, int_rem, Bool, false, ◌||◌, ◌==◌, if◌then◌else◌}
use Rattle.std.specs.Int.{bit_at, int_div_euclid, int_rem_euclid}
use Rattle.smt_bits.specs.BitVector.{from_bits, is_negative, modulo, signed}

-- ---- modulo 2 ^ m

abbrev pub bvneg : ℕ → ℕ → ℕ
bvneg m s = (2 ^ m - s) % 2 ^ m

abbrev pub bvadd : ℕ → ℕ → ℕ → ℕ
bvadd m s t = (s + t) % 2 ^ m

abbrev pub bvsub : ℕ → ℕ → ℕ → ℕ
bvsub m s t = (s + (2 ^ m - t)) % 2 ^ m

abbrev pub bvmul : ℕ → ℕ → ℕ → ℕ
bvmul m s t = (s * t) % 2 ^ m

-- by 0: all bits set, and the dividend
abbrev pub bvudiv : ℕ → ℕ → ℕ → ℕ
bvudiv m s t = if t == 0 then 2 ^ m - 1 else s / t

abbrev pub bvurem : ℕ → ℕ → ℕ → ℕ
bvurem m s t = if t == 0 then s else s % t

-- ---- whether an exact result is no number of m bits, or no integer that m bits are, read as signed

abbrev pub overflows : ℕ → ℤ → Bool
overflows m z = int_lt z (pos 0) || int_le (pos (2 ^ m)) z

abbrev pub overflows_signed : ℕ → ℤ → Bool
overflows_signed m z = int_lt z (neg_ℤ (pos (2 ^ (m - 1)))) || int_le (pos (2 ^ (m - 1))) z

abbrev pub bvuaddo : ℕ → ℕ → ℕ → Bool
bvuaddo m s t = overflows m (pos s +ℤ pos t)

abbrev pub bvusubo : ℕ → ℕ → ℕ → Bool
bvusubo m s t = overflows m (pos s -ℤ pos t)

abbrev pub bvumulo : ℕ → ℕ → ℕ → Bool
bvumulo m s t = overflows m (pos s *ℤ pos t)

abbrev pub bvnego : ℕ → ℕ → Bool
bvnego m s = overflows_signed m (neg_ℤ (signed m s))

abbrev pub bvsaddo : ℕ → ℕ → ℕ → Bool
bvsaddo m s t = overflows_signed m (signed m s +ℤ signed m t)

abbrev pub bvssubo : ℕ → ℕ → ℕ → Bool
bvssubo m s t = overflows_signed m (signed m s -ℤ signed m t)

abbrev pub bvsmulo : ℕ → ℕ → ℕ → Bool
bvsmulo m s t = overflows_signed m (signed m s *ℤ signed m t)

-- there is no quotient by 0; `int_div` rounds towards 0
abbrev pub bvsdivo : ℕ → ℕ → ℕ → Bool
bvsdivo m s t = if t == 0 then false else overflows_signed m (int_div (signed m s) (signed m t))

-- ---- bit by bit

abbrev pub bvnot : ℕ → ℕ → ℕ
bvnot m s = from_bits (λ i. 1 - bit_at s i) m

abbrev pub bvand : ℕ → ℕ → ℕ → ℕ
bvand m s t = from_bits (λ i. bit_at s i * bit_at t i) m

abbrev pub bvor : ℕ → ℕ → ℕ → ℕ
bvor m s t = from_bits (λ i. 1 - (1 - bit_at s i) * (1 - bit_at t i)) m

abbrev pub bvxor : ℕ → ℕ → ℕ → ℕ
bvxor m s t = from_bits (λ i. (bit_at s i + bit_at t i) % 2) m

abbrev pub bvnand : ℕ → ℕ → ℕ → ℕ
bvnand m s t = from_bits (λ i. 1 - bit_at s i * bit_at t i) m

abbrev pub bvnor : ℕ → ℕ → ℕ → ℕ
bvnor m s t = from_bits (λ i. (1 - bit_at s i) * (1 - bit_at t i)) m

abbrev pub bvxnor : ℕ → ℕ → ℕ → ℕ
bvxnor m s t = from_bits (λ i. 1 - (bit_at s i + bit_at t i) % 2) m

-- ---- signed division. `int_div` rounds towards 0, and `int_rem` has the dividend's sign

abbrev pub bvsdiv : ℕ → ℕ → ℕ → ℕ
bvsdiv m s t = if t == 0 then (if is_negative m s then 1 else 2 ^ m - 1)
    else modulo m (int_div (signed m s) (signed m t))

abbrev pub bvsrem : ℕ → ℕ → ℕ → ℕ
bvsrem m s t = if t == 0 then s else modulo m (int_rem (signed m s) (signed m t))

-- the remainder that has the divisor's sign
abbrev pub flooring_remainder : ℤ → ℤ → ℤ
flooring_remainder a n = if int_lt n (pos 0) then neg_ℤ (int_rem_euclid (neg_ℤ a) n) else int_rem_euclid a n

abbrev pub bvsmod : ℕ → ℕ → ℕ → ℕ
bvsmod m s t = if t == 0 then s else modulo m (flooring_remainder (signed m s) (signed m t))

-- ---- shifts, by any number t

abbrev pub bvshl : ℕ → ℕ → ℕ → ℕ
bvshl m s t = (s * 2 ^ t) % 2 ^ m

abbrev pub bvlshr : ℕ → ℕ → ℕ → ℕ
bvlshr m s t = s / 2 ^ t

abbrev pub bvashr : ℕ → ℕ → ℕ → ℕ
bvashr m s t = modulo m (int_div_euclid (signed m s) (pos (2 ^ t)))

-- ---- parts

-- s above the n bits of t
abbrev pub concat : ℕ → ℕ → ℕ → ℕ
concat n s t = s * 2 ^ n + t

-- bits i down to j, for j at most i
abbrev pub extract : ℕ → ℕ → ℕ → ℕ
extract i j s = s / 2 ^ j % 2 ^ (i - j + 1)

-- i times the m bits of s
abbrev pub repeat : ℕ → ℕ → ℕ → ℕ
repeat zero m s = 0
repeat (suc i) m s = concat m (repeat i m s) s

-- with i copies of the highest bit before the m bits
abbrev pub sign_extend : ℕ → ℕ → ℕ → ℕ
sign_extend i m s = modulo (m + i) (signed m s)

-- the highest k bits, for k below m, behind the others
abbrev pub rotated_left : ℕ → ℕ → ℕ → ℕ
rotated_left k m s = s % 2 ^ (m - k) * 2 ^ k + s / 2 ^ (m - k)

abbrev pub rotate_left : ℕ → ℕ → ℕ → ℕ
rotate_left i m s = rotated_left (i % m) m s

-- the lowest k bits, for k below m, before the others
abbrev pub rotated_right : ℕ → ℕ → ℕ → ℕ
rotated_right k m s = s % 2 ^ k * 2 ^ (m - k) + s / 2 ^ k

abbrev pub rotate_right : ℕ → ℕ → ℕ → ℕ
rotate_right i m s = rotated_right (i % m) m s

-- ---- comparisons

abbrev pub bvslt : ℕ → ℕ → ℕ → Bool
bvslt m s t = int_lt (signed m s) (signed m t)

-- one bit, which is set for equals
abbrev pub bvcomp : ℕ → ℕ → ℕ
bvcomp s t = if s == t then 1 else 0
