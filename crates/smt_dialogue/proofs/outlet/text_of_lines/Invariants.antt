-- the text of the lines so far
use Rattle.std.proofs.Common.{◌≡◌, take}
use Rattle.std.specs.Prelude.{string_bytes}
use Rattle.smt_dialogue.specs.Run.{text_of_lines}
use Rattle.smt_dialogue.proofs.outlet.text_of_lines.Given as goal

abbrev pub invariant-loop-line : goal.invariant-loop-line
invariant-loop-line l = string_bytes l.text ≡ text_of_lines (take l.line-index l.lines)
