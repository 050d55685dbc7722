-- SMT-LIB 2.6, theory Reals: the numbers of decimals.
use Rattle.std.specs.Prelude.{ℕ, ◌+◌, ◌==◌, List, [], ◌∷◌, if◌then◌else◌}
use Rattle.std.specs.Str.Parse.{digits_value}
use Rattle.smt_ratios.specs.Operators.{decimal}
use Rattle.smt_theory.specs.Literals.{figures}
use Rattle.smt_theory.specs.declared.literal.LiteralKind.TheVariants.{Decimal}
use Rattle.smt_values.specs.Element.{Element}
use Rattle.smt_values.specs.Numbers.{element_of_number}

-- how many bytes stand behind the last point, where n stand before these and behind the last one there
abbrev pub places_from : ℕ → List ℕ → ℕ
places_from n [] = n
places_from n (byte ∷ bytes) = if byte == 46 then places_from 0 bytes else places_from (n + 1) bytes

abbrev pub places : List ℕ → ℕ
places digits = places_from 0 digits

-- the number that a decimal's digits spell without the point
abbrev pub decimal_digits : List ℕ → ℕ
decimal_digits digits = digits_value 10 (figures Decimal digits)

-- the number of a decimal
abbrev pub decimal_value : List ℕ → Element
decimal_value digits = element_of_number (decimal (decimal_digits digits) (places digits))
