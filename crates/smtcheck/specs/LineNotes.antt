-- What a clause reads of notes on the lines of a report.
use Rattle.std.specs.Prelude.{◌≡◌, List, true}
use Rattle.smt_report.specs.declared.line.Line.{Line}
use Rattle.smtcheck.specs.declared.line_notes.LineNotes.{LineNotes}

-- these lines were noted, and are those that are kept, if any are
pub record AreNotesOn (notes : LineNotes) (visited : List Line) : Type 0 where
  pub kept : notes.has_all ≡ true → notes.lines.items ≡ visited
