-- What a clause reads of a source over bytes in memory.
use Rattle.std.specs.Prelude.{ℕ, List, Bool}
use Rattle.smt_streams.specs.declared.pieces.Pieces.{Pieces}

-- the bytes to come
abbrev pub pieces_left : Pieces → List ℕ
pieces_left pieces = pieces.rest.now

-- the most bytes that a call gives
abbrev pub pieces_most : Pieces → ℕ
pieces_most pieces = pieces.most

-- whether a call has told the end
abbrev pub pieces_ended : Pieces → Bool
pieces_ended pieces = pieces.ended
