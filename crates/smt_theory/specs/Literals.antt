-- Kinds of literals (SMT-LIB 2.6, section 3.1), and the numbers that they spell.
use Rattle.std.specs.Prelude.{ℕ, List, Bool, not, Option, ◌==◌}
use Rattle.std.specs.List.{filter}
use Rattle.std.specs.Str.Parse.{digits_value}
use Rattle.smt_theory.specs.Numbers.{below_word}
use Rattle.smt_theory.specs.declared.literal.LiteralKind.{LiteralKind}
use Rattle.smt_theory.specs.declared.literal.LiteralKind.TheVariants.{Numeral, Decimal, Hexadecimal, Binary}

-- the base of a literal's digits
abbrev pub radix : LiteralKind → ℕ
radix Numeral = 10
radix Decimal = 10
radix Hexadecimal = 16
radix Binary = 2

-- whether a byte of a decimal is not its point
abbrev pub is_figure : ℕ → Bool
is_figure byte = not (byte == 46)

-- the digits of a literal, of a decimal without the point
abbrev pub figures : LiteralKind → List ℕ → List ℕ
figures Decimal digits = filter is_figure digits
figures _ digits = digits

-- the number that a literal spells, where it fits a word of 128 bits
abbrev pub spelled_number : LiteralKind → List ℕ → Option ℕ
spelled_number kind digits = below_word (digits_value (radix kind) (figures kind digits))
