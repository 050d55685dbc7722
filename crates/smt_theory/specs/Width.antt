-- Widths of bit vectors. SMT-LIB 2.6, theory FixedSizeBitVectors, has them from 1 on; the upper limit is this
-- project's own.
use Rattle.std.specs.Prelude.{ℕ, Option, Some, None, nat_le, ◌&&◌, if◌then◌else◌}

-- the width of so many bits
abbrev pub width_of : ℕ → Option ℕ
width_of bits = if nat_le 1 bits && nat_le bits 128 then Some bits else None
