-- The escapes of a field's text, and the bytes that the text stands for.
use Rattle.std.specs.Prelude.{ℕ, ◌+◌, ◌-◌, ◌*◌, ◌^◌, zero, suc, min, List, [], ◌∷◌, ◌++◌, Bool, length}
use Rattle.std.specs.Prelude.{◌&&◌, ◌||◌, nat_lt}
use Rattle.std.specs.Prelude.{Option, Some, None, option_map, nat_le, ◌==◌, if◌then◌else◌}
use Rattle.std.specs.Option.{option_and_then}
use Rattle.std.specs.Fmt.{decimal}
use Rattle.row_texts.specs.declared.escapes.State.{State}
use Rattle.row_texts.specs.declared.escapes.State.TheVariants as states
use Rattle.row_texts.specs.declared.escapes.Times.{Times}
use Rattle.row_texts.specs.declared.escapes.Times.TheVariants.{Count, Outer}

-- a piece of a text: a byte, the number of the repetition, the number before it, or a repeated text
mutual
  pub data Piece : Type 0 where
    Byte : (byte : ℕ) → Piece
    Number : Piece
    Before : Piece
    Repeat : (times : Times) → (pieces : Pieces) → Piece

  pub data Pieces : Type 0 where
    Nil : Pieces
    Cons : (first : Piece) → (rest : Pieces) → Pieces

-- the pieces, and then one more
abbrev pub and_then : Pieces → Piece → Pieces
and_then Nil piece = Cons piece Nil
and_then (Cons first rest) piece = Cons first (and_then rest piece)

-- how often a text is repeated in the repetition of this number
abbrev pub count_of : Times → (number : ℕ) → ℕ
count_of (Count count) number = count
count_of Outer number = number

-- the bytes at the numbers from 1 to this one, in order
abbrev pub repeated : (bytes_at : ℕ → List ℕ) → ℕ → List ℕ
repeated bytes_at zero = []
repeated bytes_at (suc number) = repeated bytes_at number ++ bytes_at (suc number)

-- what pieces stand for in the repetition of this number
abbrev mutual
  pub bytes_of : Piece → (number : ℕ) → List ℕ
  bytes_of (Byte byte) number = byte ∷ []
  bytes_of Number number = decimal number
  bytes_of Before number = decimal (number - 1)
  bytes_of (Repeat times pieces) number = repeated (bytes_of_all pieces) (count_of times number)

  pub bytes_of_all : Pieces → (number : ℕ) → List ℕ
  bytes_of_all Nil number = []
  bytes_of_all (Cons first rest) number = bytes_of first number ++ bytes_of_all rest number

-- what was read: the pieces after the last open brace, and for each open brace, the last first, the pieces before
-- it, and how often its text is repeated
pub record Reading : Type 0 where
  pub pieces : Pieces
  pub open_braces : List (Pieces × Times)

abbrev pub is_in_braces : Reading → Bool
is_in_braces reading = nat_lt 0 (length reading.open_braces)

abbrev pub with_piece : Reading → Piece → Reading
with_piece reading piece = record reading { pieces = and_then reading.pieces piece }

-- the byte that an escape of one letter stands for: `n`, `t` and `r` have one of their own, and a backslash and
-- the braces stand for themselves
abbrev pub letter_escape : ℕ → Option ℕ
letter_escape byte =
    if byte == 110 then Some 10
    else if byte == 116 then Some 9
    else if byte == 114 then Some 13
    else if byte == 92 || byte == 123 || byte == 125 then Some byte
    else None

abbrev pub hexadecimal_digit : ℕ → Option ℕ
hexadecimal_digit byte =
    if nat_le 48 byte && nat_le byte 57 then Some (byte - 48)
    else if nat_le 97 byte && nat_le byte 102 then Some (byte - 97 + 10)
    else None

abbrev pub is_decimal_digit : ℕ → Bool
is_decimal_digit byte = nat_le 48 byte && nat_le byte 57

-- outside of every escape, after a piece
abbrev pub after_piece : Reading → Piece → State × Reading
after_piece reading piece = (states.Outside, with_piece reading piece)

-- what a closing brace makes: outside of every repetition it is a byte like any other
abbrev pub close_brace : Pieces → List (Pieces × Times) → Reading
close_brace pieces [] = record { pieces = and_then pieces (Byte 125); open_braces = [] }
close_brace pieces (brace ∷ braces) =
    record { pieces = and_then brace.0 (Repeat brace.1 pieces); open_braces = braces }

-- the byte outside of every escape: a backslash begins one
abbrev pub read_outside : Reading → ℕ → State × Reading
read_outside reading byte =
    if byte == 92 then (states.Backslash, reading)
    else if byte == 125 then (states.Outside, close_brace reading.pieces reading.open_braces)
    else after_piece reading (Byte byte)

-- the byte after a backslash: `x`, `*`, in braces `#` and `-`, or that of an escape of one letter
abbrev pub read_escaped : Reading → ℕ → Option (State × Reading)
read_escaped reading byte =
    if byte == 120 then Some (states.Byte, reading)
    else if byte == 42 then Some (states.Repeat, reading)
    else if byte == 35 && is_in_braces reading then Some (after_piece reading Number)
    else if byte == 45 && is_in_braces reading then Some (after_piece reading Before)
    else option_map (λ meant. after_piece reading (Byte meant)) (letter_escape byte)

-- the byte after `\*`: a digit, or in braces `#`
abbrev pub read_times : Reading → ℕ → Option (State × Reading)
read_times reading byte =
    if is_decimal_digit byte then Some (states.Brace (Count (byte - 48)), reading)
    else if byte == 35 && is_in_braces reading then Some (states.Brace Outer, reading)
    else None

-- a count with one more digit. Counts end at 2 ^ 64 - 1: no text is repeated more often.
abbrev pub with_digit : Times → ℕ → Option Times
with_digit (Count count) byte = Some (Count (min (count * 10 + (byte - 48)) (2 ^ 64 - 1)))
with_digit Outer byte = None

-- the byte after the first digit of a count, or after `\*#`: an opening brace, or one more digit
abbrev pub read_brace : Times → Reading → ℕ → Option (State × Reading)
read_brace times reading byte =
    if byte == 123 then
    Some (states.Outside, record { pieces = Nil; open_braces = (reading.pieces, times) ∷ reading.open_braces })
    else if is_decimal_digit byte then option_map (λ more. (states.Brace more, reading)) (with_digit times byte)
    else None

-- what one more byte makes of what was read; `None` where it can't stand there
abbrev pub read_byte : State → Reading → ℕ → Option (State × Reading)
read_byte states.Outside reading byte = Some (read_outside reading byte)
read_byte states.Backslash reading byte = read_escaped reading byte
read_byte states.Byte reading byte =
    option_map (λ digit. (states.SecondDigit digit, reading)) (hexadecimal_digit byte)
read_byte (states.SecondDigit first) reading byte =
    option_map (λ digit. after_piece reading (Byte (first * 16 + digit))) (hexadecimal_digit byte)
read_byte states.Repeat reading byte = read_times reading byte
read_byte (states.Brace times) reading byte = read_brace times reading byte

-- the pieces of a text that ends here; `None` inside an escape, and where a brace is open
abbrev pub pieces_at_end : State → Reading → Option Pieces
pieces_at_end states.Outside reading = if is_in_braces reading then None else Some reading.pieces
pieces_at_end _ reading = None

-- the pieces of a text of which this was read, and these bytes are left
abbrev pub pieces_after : State × Reading → List ℕ → Option Pieces
pieces_after read [] = pieces_at_end read.0 read.1
pieces_after read (byte ∷ bytes) =
    option_and_then (λ more. pieces_after more bytes) (read_byte read.0 read.1 byte)

-- the pieces of a text; `None` if an escape in it is faulty
abbrev pub pieces_of : List ℕ → Option Pieces
pieces_of text = pieces_after (states.Outside, record { pieces = Nil; open_braces = [] }) text

-- the bytes that a text stands for; `None` if an escape in it is faulty
abbrev pub bytes_meant : List ℕ → Option (List ℕ)
bytes_meant text = option_map (λ pieces. bytes_of_all pieces 0) (pieces_of text)
