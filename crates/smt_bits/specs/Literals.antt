-- SMT-LIB 2.6, section 3.1 and theory FixedSizeBitVectors: the bit vectors that hexadecimal and binary
-- constants are. Each digit has its bits, so the number fits; what comes of other bytes than digits is of no
-- interest.
use Rattle.std.specs.Prelude.{ℕ, ◌*◌, ◌%◌, ◌^◌, List, length, Option, Some, None, is_some, if◌then◌else◌}
use Rattle.std.specs.Str.Parse.{digits_value}
use Rattle.smt_theory.specs.Width.{width_of}
use Rattle.smt_bits.specs.BitVector.{BitVector, vector}

-- the digits in a base, each of so many bits
abbrev pub constant : ℕ → ℕ → List ℕ → BitVector
constant base bits digits =
    vector (bits * length digits) (digits_value base digits % 2 ^ (bits * length digits))

abbrev pub hex_vector : List ℕ → BitVector
hex_vector digits = constant 16 4 digits

abbrev pub bin_vector : List ℕ → BitVector
bin_vector digits = constant 2 1 digits

-- the constant, where it is of a width that there is
abbrev pub known_constant : ℕ → ℕ → List ℕ → Option BitVector
known_constant base bits digits =
    if is_some (width_of (bits * length digits)) then Some (constant base bits digits) else None
