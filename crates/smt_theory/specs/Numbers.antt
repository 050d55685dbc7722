-- Numbers from their digits.
use Rattle.std.specs.Prelude.{ℕ, ◌^◌, List, [], ◌∷◌, Bool, false, ◌==◌, Option, Some, None, length, nat_lt}
use Rattle.std.specs.Prelude.{if◌then◌else◌}
use Rattle.std.specs.Char.{is_ascii_digit}
use Rattle.std.specs.List.{list_all}

-- a number that fits a word of 128 bits
abbrev pub below_word : ℕ → Option ℕ
below_word n = if nat_lt n (2 ^ 128) then Some n else None

-- whether bytes are a numeral (SMT-LIB 2.6, section 3.1): `0`, or decimal digits that do not begin with `0`
abbrev pub is_numeral : List ℕ → Bool
is_numeral [] = false
is_numeral (first ∷ rest) = if first == 48 then length rest == 0 else list_all is_ascii_digit (first ∷ rest)
