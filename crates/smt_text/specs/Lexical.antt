-- SMT-LIB 2.6, section 3.1: bytes, by what they may stand for. That a symbol and a string are strings of
-- bytes, in whatever encoding, is this project's rule.
use Rattle.std.specs.Prelude.{ℕ, Bool, not, ◌==◌, ◌||◌, ◌&&◌, nat_le, codes}
use Rattle.std.specs.List.{list_any}

abbrev pub open_parenthesis : ℕ
open_parenthesis = 40

abbrev pub close_parenthesis : ℕ
close_parenthesis = 41

-- '"'
abbrev pub quote : ℕ
quote = 34

-- '|'
abbrev pub bar : ℕ
bar = 124

-- ';'
abbrev pub semicolon : ℕ
semicolon = 59

-- '.'
abbrev pub point : ℕ
point = 46

-- '0'
abbrev pub zero_digit : ℕ
zero_digit = 48

-- tab, line feed, carriage return, space
abbrev pub is_white : ℕ → Bool
is_white b = b == 9 || b == 10 || b == 13 || b == 32

-- line feed, carriage return
abbrev pub is_line_end : ℕ → Bool
is_line_end b = b == 10 || b == 13

-- '0' to '9'
abbrev pub is_digit : ℕ → Bool
is_digit b = nat_le 48 b && nat_le b 57

-- '1' to '9'
abbrev pub is_nonzero_digit : ℕ → Bool
is_nonzero_digit b = nat_le 49 b && nat_le b 57

-- '0' to '9', 'a' to 'f', 'A' to 'F'
abbrev pub is_hexadecimal_digit : ℕ → Bool
is_hexadecimal_digit b = is_digit b || nat_le 97 b && nat_le b 102 || nat_le 65 b && nat_le b 70

-- '0' and '1'
abbrev pub is_binary_digit : ℕ → Bool
is_binary_digit b = b == 48 || b == 49

-- the bytes of simple symbols, digits aside: 'a' to 'z', 'A' to 'Z' and these
abbrev pub is_letter : ℕ → Bool
is_letter b =
    nat_le 97 b && nat_le b 122 || nat_le 65 b && nat_le b 90
    || list_any (λ c. b == c) (codes "~!@$%^&*_-+=<>.?/")

-- the bytes of simple symbols
abbrev pub is_symbol_byte : ℕ → Bool
is_symbol_byte b = is_letter b || is_digit b

-- bytes that can be printed: all from 32 on, apart from 127
abbrev pub is_printable : ℕ → Bool
is_printable b = nat_le 32 b && not (b == 127)

-- the bytes between the quotes of a string literal
abbrev pub is_text_byte : ℕ → Bool
is_text_byte b = is_printable b || is_white b

-- the bytes between the bars of a quoted symbol: all of a string's, apart from the bar and the backslash
abbrev pub is_quoted_byte : ℕ → Bool
is_quoted_byte b = is_text_byte b && not (b == 124) && not (b == 92)

-- the bytes of a comment
abbrev pub is_comment_byte : ℕ → Bool
is_comment_byte b = not (is_line_end b)

-- a byte that shows that the token before it has ended: white space, the beginning of a comment, a
-- parenthesis
abbrev pub ends_token : ℕ → Bool
ends_token b = is_white b || b == 59 || b == 40 || b == 41
