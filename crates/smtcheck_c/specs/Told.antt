-- What C is told of a dialogue.
use Rattle.std.specs.Prelude.{◌≡◌, ◌<◌, ◌≤◌, ℕ, List, ◌++◌, count_by, drop, length}
use Rattle.smt_dialogue.specs.Report.{IsReport}
use Rattle.smt_dialogue.specs.Run.{text_of_lines}
use Rattle.smt_dialogue.specs.Validity.{IsInvalid, IsValid}
use Rattle.smt_dialogue.specs.declared.options.Options.{Options}
use Rattle.smt_report.specs.Verdict.{IsVerdictOf, is_confirmed_line, is_refuted_line, is_unchecked_line}
use Rattle.smt_report.specs.Verdict.{is_undecided_line, status_of}
use Rattle.smt_report.specs.declared.line.Line.{Line}
use Rattle.smt_report.specs.declared.verdict.Verdict.{Verdict}
use Rattle.smtcheck_c.specs.Given.{AreGiven}
use Rattle.smtcheck_c.specs.declared.options.SmtcheckOptions.{SmtcheckOptions}
use Rattle.smtcheck_c.specs.declared.summary.SmtcheckSummary.{SmtcheckSummary}

-- a text stands at the front of a buffer if there is room for all of it, and else the buffer is as it was
pub record IsPut (text before after : List ℕ) : Type 0 where
  pub whole : length text ≤ length before → after ≡ text ++ drop (length text) before
  pub none : length before < length text → after ≡ before

-- the counts of the lines, by their kinds, and of all lines
pub record IsSummaryOf (summary : SmtcheckSummary) (ls : List Line) : Type 0 where
  pub confirmed : summary.confirmed ≡ count_by is_confirmed_line ls
  pub refuted : summary.refuted ≡ count_by is_refuted_line ls
  pub undecided : summary.undecided ≡ count_by is_undecided_line ls
  pub unchecked : summary.unchecked ≡ count_by is_unchecked_line ls
  pub lines : summary.lines ≡ length ls

-- the number is that of the verdict of the report on these texts, the summary that of its lines, and the text is
-- theirs
pub record IsTelling (options : Options) (script answers : List ℕ) (number : ℕ) (summary : SmtcheckSummary)
    (text : List ℕ) : Type 0 where
  pub lines : List Line
  pub report : IsReport options script answers lines
  pub verdict : Verdict
  pub verdict_is : IsVerdictOf verdict lines
  pub number_is : number ≡ status_of verdict
  pub summary_is : IsSummaryOf summary lines
  pub text_is : text ≡ text_of_lines lines
  pub valid : number ≡ 0 → IsValid options script answers
  pub invalid : number ≡ 1 → IsInvalid options script answers lines

-- C is told that: so many bytes are wanted for the text, which stands in the buffer if there is room for all of it
pub record IsTold (given : SmtcheckOptions) (script answers : List ℕ) (number : ℕ) (summary : SmtcheckSummary)
    (wanted : ℕ) (before after : List ℕ) : Type 0 where
  pub options : Options
  pub options_are : AreGiven given options
  pub text : List ℕ
  pub telling : IsTelling options script answers number summary text
  pub wanted_is : wanted ≡ length text
  pub put : IsPut text before after

-- the dialogue is valid under the options that C has given
pub record IsValidBy (given : SmtcheckOptions) (script answers : List ℕ) : Type 0 where
  pub options : Options
  pub options_are : AreGiven given options
  pub valid : IsValid options script answers

-- the dialogue is invalid under the options that C has given, and its report says so
pub record IsInvalidBy (given : SmtcheckOptions) (script answers : List ℕ) : Type 0 where
  pub options : Options
  pub options_are : AreGiven given options
  pub lines : List Line
  pub report : IsReport options script answers lines
  pub invalid : IsInvalid options script answers lines

-- the number is that of the verdict of the report on these texts
pub record IsNumbered (options : Options) (script answers : List ℕ) (number : ℕ) : Type 0 where
  pub lines : List Line
  pub report : IsReport options script answers lines
  pub verdict : Verdict
  pub verdict_is : IsVerdictOf verdict lines
  pub number_is : number ≡ status_of verdict

-- C is told a text about these texts, and the number of their verdict: so many bytes are wanted for it, and it
-- stands in the buffer if there is room for all of it. Nothing is said of what the text is
pub record IsExplained (given : SmtcheckOptions) (script answers : List ℕ) (number wanted : ℕ)
    (before after : List ℕ) : Type 0 where
  pub options : Options
  pub options_are : AreGiven given options
  pub numbered : IsNumbered options script answers number
  pub text : List ℕ
  pub wanted_is : wanted ≡ length text
  pub put : IsPut text before after
