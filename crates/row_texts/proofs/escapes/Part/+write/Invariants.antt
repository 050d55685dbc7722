use Rattle.std.proofs.Common.{◌≡◌, ◌≤◌, ◌++◌, ◌+◌, ◌-◌, take}
use Rattle.row_texts.specs.Escapes.{bytes_of_all, repeated}
use Rattle.row_texts.specs.Internal.Parts.{pieces_in}
use Rattle.row_texts.proofs.escapes.Part.+write.Given as goal

abbrev pub invariant-loop-part : goal.invariant-loop-part
invariant-loop-part l =
    l.bytes.items ≡ l.initial.bytes.items ++ bytes_of_all (pieces_in (take l.part-index l.part-items)) l.number

abbrev pub invariant-loop-number : goal.invariant-loop-number
invariant-loop-number l =
    (l.bytes.items ≡ l.initial.bytes.items ++ repeated (bytes_of_all (pieces_in l.parts.items)) (l.number - 1))
    × (l.number ≤ l.count + 1)
