-- Numbers as their bytes, the lowest first.
use Rattle.std.specs.Prelude.{ℕ, List, slice_index}
use Rattle.std.specs.Int.{byte_worth, bytes_low_first, from_le_bytes, sum_through, to_le_bytes, w64}

-- the number of 8 bytes
unfoldable pub of_eight : List ℕ → ℕ
of_eight bytes = from_le_bytes w64 bytes

unfoldable pub eight_of : ℕ → List ℕ
eight_of n = to_le_bytes w64 n

-- the number of 7 bytes
unfoldable pub of_seven : List ℕ → ℕ
of_seven bytes = sum_through (λ i. byte_worth i (slice_index bytes i)) 6

unfoldable pub seven_of : ℕ → List ℕ
seven_of n = bytes_low_first 0 7 n
