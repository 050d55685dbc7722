-- Numbers are what their bytes are read as.
use Rattle.std.specs.Prelude.{◌≡◌, ℕ, ◌+◌, ◌*◌, ◌^◌, ◌<◌, ◌/◌, ◌%◌}
use Rattle.std.proofs.Common.{arith}
use Rattle.std.proofs.lemmas.Nat.{from_le_bytes-to_le_bytes_8}
use Rattle.smt_ratios.specs.Bytes.{eight_of, of_eight, of_seven, seven_of}

pub eight_back : (n : ℕ) → n < 2 ^ 64 → of_eight (eight_of n) ≡ n
unfolding of_eight eight_of
eight_back n h = from_le_bytes-to_le_bytes_8 n h

-- of a number below 2 ^ 56 the eighth byte is 0
last_byte : (n : ℕ) → n < 2 ^ 56 → n / 72057594037927936 % 256 ≡ 0
last_byte n h = omega arith

last_away : (rest byte n : ℕ) → byte ≡ 0 → rest + byte * 72057594037927936 ≡ n → rest ≡ n
last_away rest byte n e f = omega arith

pub seven_back : (n : ℕ) → n < 2 ^ 56 → of_seven (seven_of n) ≡ n
unfolding of_seven seven_of
seven_back n h = last_away _ (n / 72057594037927936 % 256) n (last_byte n h) (from_le_bytes-to_le_bytes_8 n (omega arith))

pub seven_read : (rest n : ℕ) → n ≡ rest + 0 → n ≡ rest
seven_read rest n e = omega arith
