-- What arithmetic says of the numbers of m bits, in words that name no operator.
use Rattle.std.specs.Prelude.{◌≡◌, ℕ, ◌^◌, ◌<◌, ℤ, pos, ◌+ℤ◌, ◌*ℤ◌, ◌≤ℤ◌, unsigned_abs}

-- r is the number of m bits that differs from z by a multiple of 2 ^ m
pub record IsModulo (m : ℕ) (z : ℤ) (r : ℕ) : Type 0 where
  pub below : r < 2 ^ m
  pub multiple : (k : ℤ) × (z ≡ pos r +ℤ k *ℤ pos (2 ^ m))

-- a divided by n, rounded towards 0, is q and leaves r, which is 0 or has the dividend's sign
pub record IsTruncated (a n q r : ℤ) : Type 0 where
  pub exact : a ≡ q *ℤ n +ℤ r
  pub small : unsigned_abs r < unsigned_abs n
  pub at_least_zero : pos 0 ≤ℤ a → pos 0 ≤ℤ r
  pub at_most_zero : a ≤ℤ pos 0 → r ≤ℤ pos 0

-- a divided by n, rounded down, is q and leaves r, which is 0 or has the divisor's sign
pub record IsFloored (a n q r : ℤ) : Type 0 where
  pub exact : a ≡ q *ℤ n +ℤ r
  pub small : unsigned_abs r < unsigned_abs n
  pub at_least_zero : pos 0 ≤ℤ n → pos 0 ≤ℤ r
  pub at_most_zero : n ≤ℤ pos 0 → r ≤ℤ pos 0
