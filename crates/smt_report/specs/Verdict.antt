-- What the lines of a report come to. These are this project's rules.
use Rattle.std.specs.Prelude.{◌≡◌, ℕ, List, [], ◌∷◌, ◌++◌, Bool, true, false, ◌&&◌, count_by, nat_eq, nat_lt}
use Rattle.std.specs.Prelude.{if◌then◌else◌}
use Rattle.std.specs.List.{list_any}
use Rattle.smt_report.specs.declared.line.Line.{Line}
use Rattle.smt_report.specs.declared.line.Line.TheVariants as lines
use Rattle.smt_report.specs.declared.summary.Summary.{Summary}
use Rattle.smt_report.specs.declared.verdict.Tally.{Tally}
use Rattle.smt_report.specs.declared.verdict.Verdict.{Verdict}
use Rattle.smt_report.specs.declared.verdict.Verdict.TheVariants as verdicts

abbrev pub is_confirmed_line : Line → Bool
is_confirmed_line (lines.Confirmed k n) = true
is_confirmed_line _ = false

abbrev pub is_refuted_line : Line → Bool
is_refuted_line (lines.Refuted k n g a) = true
is_refuted_line _ = false

abbrev pub is_undecided_line : Line → Bool
is_undecided_line (lines.NoModel k n) = true
is_undecided_line (lines.ItemFault k n g i f) = true
is_undecided_line (lines.Lacks k n g d) = true
is_undecided_line (lines.TooLong k n g) = true
is_undecided_line (lines.NotDecided k n g a) = true
is_undecided_line _ = false

abbrev pub is_unchecked_line : Line → Bool
is_unchecked_line (lines.Unchecked k n answer) = true
is_unchecked_line _ = false

abbrev pub is_fault_line : Line → Bool
is_fault_line (lines.TextFault side flaw) = true
is_fault_line (lines.CommandFault n flaw) = true
is_fault_line (lines.MissingAnswer n) = true
is_fault_line (lines.UnexpectedAnswer n m) = true
is_fault_line (lines.ExtraAnswer m) = true
is_fault_line _ = false

-- how many lines there are of each kind
abbrev pub tally_of : List Line → Tally
tally_of ls =
    record {
      confirmed = count_by is_confirmed_line ls;
      refuted = count_by is_refuted_line ls;
      undecided = count_by is_undecided_line ls;
      unchecked = count_by is_unchecked_line ls;
    }

-- what lines come to: refused at a fault, else invalid at a refuted model, else not decided at an undecided
-- `sat`
abbrev pub verdict_of : List Line → Verdict
verdict_of ls =
    if list_any is_fault_line ls then verdicts.Refused
    else if list_any is_refuted_line ls then verdicts.Invalid
    else if list_any is_undecided_line ls then verdicts.NotDecided else verdicts.Valid

-- the lines, and then that of the verdict
abbrev pub with_verdict : List Line → List Line
with_verdict ls = ls ++ lines.Verdict (verdict_of ls) (tally_of ls) ∷ []

abbrev pub summary_of : List Line → Summary
summary_of ls = record { verdict = verdict_of ls; tally = tally_of ls }

-- the last line is that of the verdict, and this is the summary of those before it
abbrev pub IsSummaryOf : Summary → List Line → Type 0
IsSummaryOf summary ls = (before : List Line) × (ls ≡ with_verdict before) × (summary ≡ summary_of before)

-- the last line is that of the verdict
abbrev pub IsVerdictOf : Verdict → List Line → Type 0
IsVerdictOf verdict ls =
    (prefix : List Line) × (tally : Tally) × (ls ≡ prefix ++ lines.Verdict verdict tally ∷ [])

-- the exit status that tells a verdict
abbrev pub status_of : Verdict → ℕ
status_of verdicts.Valid = 0
status_of verdicts.Invalid = 1
status_of verdicts.NotDecided = 2
status_of verdicts.Refused = 3

-- and where a dialogue is valid only if every check of it is confirmed, and there is one
abbrev pub strict_status_of : Verdict → (all_confirmed : Bool) → ℕ
strict_status_of verdicts.Valid false = 2
strict_status_of verdict _ = status_of verdict

-- there is a check, and every check is confirmed
abbrev pub are_all_confirmed : Tally → Bool
are_all_confirmed t = nat_lt 0 t.confirmed && nat_eq t.refuted 0 && nat_eq t.undecided 0 && nat_eq t.unchecked 0

-- the exit status for a report with this summary
abbrev pub exit_status_of : (strict : Bool) → Summary → ℕ
exit_status_of strict summary =
    if strict then strict_status_of summary.verdict (are_all_confirmed summary.tally) else status_of summary.verdict
