use Rattle.std.proofs.Common.{◌≡◌, ◌++◌, take}
use Rattle.row_texts.specs.Escapes.{bytes_of_all}
use Rattle.row_texts.specs.Internal.Parts.{pieces_in}
use Rattle.row_texts.proofs.escapes.write_parts.Given as goal

abbrev pub invariant-loop-part : goal.invariant-loop-part
invariant-loop-part l =
    l.bytes.items ≡ l.initial.bytes.items ++ bytes_of_all (pieces_in (take l.part-index l.parts)) 0
