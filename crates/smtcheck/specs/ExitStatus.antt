-- What the exit status of the program rests on.
use Rattle.std.specs.Prelude.{◌≡◌, ◌⊎◌, ℕ, List, None, Option, IfSome}
use Rattle.smt_dialogue.specs.Report.{IsReport}
use Rattle.smt_dialogue.specs.declared.options.Options.{Options}
use Rattle.smt_report.specs.Verdict.{IsSummaryOf, exit_status_of}
use Rattle.smt_report.specs.declared.line.Line.{Line}
use Rattle.smt_report.specs.declared.summary.Summary.{Summary}
use Rattle.smtcheck_command_line.specs.declared.arguments.Settings.{Settings}

-- the options are those that the command line asks for
pub record AreOptionsOf (settings : Settings) (options : Options) : Type 0 where
  pub print_success : options.print_success ≡ settings.print_success
  pub profile : options.profile ≡ settings.profile
  pub steps : options.limit.steps ≡ settings.steps

-- the summary of the report on a script and on answers. Where bytes are given, these are the texts
pub record IsSummaryOn (settings : Settings) (script answers : Option (List ℕ)) (summary : Summary) : Type 0 where
  pub options : Options
  pub options_are : AreOptionsOf settings options
  pub script_bytes : List ℕ
  pub answers_bytes : List ℕ
  pub script_is : IfSome script (λ bytes. bytes ≡ script_bytes)
  pub answers_is : IfSome answers (λ bytes. bytes ≡ answers_bytes)
  pub lines : List Line
  pub report : IsReport options script_bytes answers_bytes lines
  pub summary_is : IsSummaryOf summary lines

-- the exit status for the report on some script and answers: nothing is known of what files hold
abbrev pub IsStatusOfReport : Settings → ℕ → Type 0
IsStatusOfReport settings status =
    (summary : Summary) × IsSummaryOn settings None None summary × (status ≡ exit_status_of settings.strict summary)
