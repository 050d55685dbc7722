-- The operators that change the width (SMT-LIB 2.6, theory FixedSizeBitVectors and logic QF_BV), where the
-- result's width is within this project's limit and the indexes are ones that the standard allows.
use Rattle.std.specs.Prelude.{ℕ, ◌+◌, ◌-◌, ◌*◌, Option, Some, None, nat_le, nat_lt, ◌&&◌, if◌then◌else◌}
use Rattle.smt_bits.specs.BitVector.{BitVector, vector}
use Rattle.smt_bits.specs.Operators as meaning

-- s above t
abbrev pub concatenation : BitVector → BitVector → Option BitVector
concatenation s t =
    if nat_le (s.width + t.width) 128
    then Some (vector (s.width + t.width) (meaning.concat t.width s.number t.number))
    else None

-- bits i down to j
abbrev pub extraction : ℕ → ℕ → BitVector → Option BitVector
extraction i j s =
    if nat_le j i && nat_lt i s.width then Some (vector (i - j + 1) (meaning.extract i j s.number)) else None

-- i times s, for i from 1 on
abbrev pub repetition : ℕ → BitVector → Option BitVector
repetition i s =
    if nat_le 1 i && nat_le (i * s.width) 128
    then Some (vector (i * s.width) (meaning.repeat i s.width s.number))
    else None

-- with i zeros before its bits
abbrev pub zero_extension : ℕ → BitVector → Option BitVector
zero_extension i s = if nat_le (s.width + i) 128 then Some (vector (s.width + i) s.number) else None

-- with i copies of the highest bit before its bits
abbrev pub sign_extension : ℕ → BitVector → Option BitVector
sign_extension i s =
    if nat_le (s.width + i) 128
    then Some (vector (s.width + i) (meaning.sign_extend i s.width s.number))
    else None
