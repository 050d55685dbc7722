-- A table of the bytes of simple symbols.
use Rattle.std.specs.Prelude.{ℕ, List, codes, if◌then◌else◌}
use Rattle.smt_text.specs.Lexical.{is_letter, is_digit}

-- 'a' for a letter, '0' for a digit and a space for any other byte
abbrev pub kind_of : ℕ → ℕ
kind_of b = if is_letter b then 97 else if is_digit b then 48 else 32

-- those of the bytes in turn
abbrev pub kinds : List ℕ
kinds = codes
    "                                 a  aaa   aa aaa0000000000  aaaaaaaaaaaaaaaaaaaaaaaaaaaaaaa   aa aaaaaaaaaaaaaaaaaaaaaaaaaa   a                                                                                                                                 "
