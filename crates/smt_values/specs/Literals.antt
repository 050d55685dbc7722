-- SMT-LIB 2.6, theories Reals_Ints and FixedSizeBitVectors: the values of constants.
use Rattle.std.specs.Prelude.{ℕ, pos, List, Option, option_map}
use Rattle.std.specs.Str.Parse.{digits_value}
use Rattle.smt_bits.specs.Literals.{known_constant}
use Rattle.smt_ratios.specs.Known.{known_decimal}
use Rattle.smt_theory.specs.declared.literal.LiteralKind.{LiteralKind}
use Rattle.smt_theory.specs.declared.literal.LiteralKind.TheVariants.{Numeral, Decimal, Hexadecimal, Binary}
use Rattle.smt_values.specs.Decimals.{decimal_digits, places}
use Rattle.smt_values.specs.Element.{Element, Integer, Vector}
use Rattle.smt_values.specs.KnownOperations.{within}
use Rattle.smt_values.specs.Numbers.{element_of_number}

-- what is known of the integer that decimal digits spell
abbrev pub numeral_element : List ℕ → Option Element
numeral_element digits = option_map Integer (within (pos (digits_value 10 digits)))

-- what is known of the number of a decimal
abbrev pub decimal_element : List ℕ → Option Element
decimal_element digits = option_map element_of_number (known_decimal (decimal_digits digits) (places digits))

-- the bit vectors that hexadecimal and binary digits spell
abbrev pub hex_element : List ℕ → Option Element
hex_element digits = option_map Vector (known_constant 16 4 digits)

abbrev pub bin_element : List ℕ → Option Element
bin_element digits = option_map Vector (known_constant 2 1 digits)

-- what is known of a literal's value
abbrev pub literal_element : LiteralKind → List ℕ → Option Element
literal_element Numeral digits = numeral_element digits
literal_element Decimal digits = decimal_element digits
literal_element Hexadecimal digits = hex_element digits
literal_element Binary digits = bin_element digits
