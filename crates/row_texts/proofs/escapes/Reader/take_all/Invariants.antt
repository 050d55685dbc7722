use Rattle.std.proofs.Common.{◌≡◌}
use Rattle.row_texts.specs.Escapes.{pieces_after}
use Rattle.row_texts.specs.Internal.Parts.{reading_of, HasDigit}
use Rattle.row_texts.proofs.escapes.Reader.take_all.Given as goal

abbrev pub invariant-loop-byte : goal.invariant-loop-byte
invariant-loop-byte l =
    HasDigit l.self.state
    × (pieces_after (l.self.state, reading_of l.self) l.byte-iterator.rest.now
    ≡ pieces_after (l.initial.self.state, reading_of l.initial.self) l.text)
