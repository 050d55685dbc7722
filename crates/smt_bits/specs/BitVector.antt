-- SMT-LIB 2.6, theory FixedSizeBitVectors: bit vectors, and the ways to read one.
use Rattle.std.specs.Prelude.{ℕ, zero, suc, ◌+◌, ◌*◌, ◌^◌, ◌<◌, ◌≤◌, ℤ, pos, ◌-ℤ◌, unsigned_abs, Bool, nat_le}
use Rattle.std.specs.Prelude.{if◌then◌else◌}
use Rattle.std.specs.Int.{int_rem_euclid}

-- a bit vector: its width, and the number below 2 ^ width that its bits are, the first one the highest
pub record BitVector : Type 0 where
  pub width : ℕ
  pub number : ℕ

-- the bit vector of m bits whose number is n
abbrev pub vector : ℕ → ℕ → BitVector
vector m n = record { width = m; number = n }

-- it has a bit at least, and its number fits
abbrev pub IsVector : BitVector → Type 0
IsVector v = (1 ≤ v.width) × (v.number < 2 ^ v.width)

-- whether the highest of m bits is set
abbrev pub is_negative : ℕ → ℕ → Bool
is_negative m s = nat_le (2 ^ m) (2 * s)

-- the integer that m bits are, read as signed
abbrev pub signed : ℕ → ℕ → ℤ
signed m s = if is_negative m s then pos s -ℤ pos (2 ^ m) else pos s

-- an integer modulo 2 ^ m
abbrev pub modulo : ℕ → ℤ → ℕ
modulo m z = unsigned_abs (int_rem_euclid z (pos (2 ^ m)))

-- the number of m bits that has these bits, the one of place 0 the lowest
abbrev pub from_bits : (ℕ → ℕ) → ℕ → ℕ
from_bits bit zero = 0
from_bits bit (suc m) = from_bits bit m + bit m * 2 ^ m
