-- What the parts of the code are as pieces, and its reader as what was read.
use Rattle.std.specs.Prelude.{◌<◌, List, [], ◌∷◌}
use Rattle.row_texts.specs.Escapes as escapes
use Rattle.row_texts.specs.Escapes.{Piece, Pieces, Nil, Cons, Reading}
use Rattle.row_texts.specs.declared.escapes.Part.{Part, Byte, Number, Before, Repeat'}
use Rattle.row_texts.specs.declared.escapes.Part.{Row_of-Part, end_of-Part, more_of-Part}
use Rattle.row_texts.specs.declared.escapes.Reader.{Reader}
use Rattle.row_texts.specs.declared.escapes.State.{State}
use Rattle.row_texts.specs.declared.escapes.State.TheVariants.{SecondDigit}
use Rattle.row_texts.specs.declared.escapes.Times.{Times}
use Rattle.std.specs.declared.vec.Vec.{Vec}
use Rattle.std.specs.declared.alloc.Global.{Global}

abbrev mutual
  pub piece_of : Part → Piece
  piece_of (Byte byte) = escapes.Byte byte
  piece_of Number = escapes.Number
  piece_of Before = escapes.Before
  piece_of (Repeat' times shape parts) = escapes.Repeat times (row_pieces parts)

  pub row_pieces : {m : _} → Row_of-Part m → Pieces
  row_pieces end_of-Part = Nil
  row_pieces (more_of-Part part parts) = Cons (piece_of part) (row_pieces parts)

-- the pieces that parts are, in order
abbrev pub pieces_in : List Part → Pieces
pieces_in [] = Nil
pieces_in (part ∷ parts) = Cons (piece_of part) (pieces_in parts)

-- the open braces that the code keeps, the last first, before those given
abbrev pub braces_onto : List (Vec Part Global × Times) → List (Pieces × Times) → List (Pieces × Times)
braces_onto [] later = later
braces_onto (brace ∷ braces) later = braces_onto braces ((pieces_in brace.0.items, brace.1) ∷ later)

abbrev pub reading_of : Reader → Reading
reading_of reader =
    record { pieces = pieces_in reader.parts.items; open_braces = braces_onto reader.outer.items [] }

-- the first digit, where one was read, is hexadecimal
abbrev pub HasDigit : State → Type 0
HasDigit (SecondDigit first) = first < 16
HasDigit _ = Unit {0}
