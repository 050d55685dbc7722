-- The lines that a dialogue ends with, and those that are kept where memory was refused.
use Rattle.std.specs.Prelude.{◌≡◌, List, ◌++◌, ◌⊎◌, Option, Some, None, true}
use Rattle.smt_report.specs.Verdict.{is_fault_line}
use Rattle.smt_report.specs.declared.line.Line.{Line}

-- the lines that there were, with further ones behind them or without
abbrev pub IsPartOf : List Line → List Line → List Line → Type 0
IsPartOf before more after = (after ≡ before) ⊎ (after ≡ before ++ more)

-- the line that a dialogue ends with, if there is one, is that of a fault
abbrev pub IsFaultLine : Option Line → Type 0
IsFaultLine None = Unit {0}
IsFaultLine (Some line) = is_fault_line line ≡ true
