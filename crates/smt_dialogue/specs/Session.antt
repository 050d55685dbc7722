-- What a session stands for: the lines of what it was told, and their summary.
use Rattle.std.specs.Prelude.{◌≡◌, ◌<◌, ◌^◌, ℕ, List, ◌++◌, length, Bool, false, Option, Some, None}
use Rattle.std.specs.List.{list_any}
use Rattle.smt_dialogue.specs.History.{AreFirstDecided, AreDecided, History, IsLong, Told, of_side}
use Rattle.smt_dialogue.specs.SoFar.{is_verdict_line}
use Rattle.smt_dialogue.specs.Internal.SessionView.{GoesOn}
use Rattle.smt_dialogue.specs.declared.session.Failed.{Failed}
use Rattle.smt_dialogue.specs.declared.session.Failed.TheVariants.{Long}
use Rattle.smt_dialogue.specs.declared.session.Fed.{Fed}
use Rattle.smt_dialogue.specs.declared.session.Session.{Session}
use Rattle.smt_report.specs.Verdict.{IsSummaryOf, IsVerdictOf}
use Rattle.smt_report.specs.declared.line.Line.{Line}
use Rattle.smt_report.specs.declared.line.Side.{Side}
use Rattle.smt_report.specs.declared.summary.Summary.{Summary}
use Rattle.smt_report.specs.declared.verdict.Verdict.{Verdict}

-- the lines that are decided and were not taken
abbrev pub lines_waiting : Session → List Line
lines_waiting s = s.exchange.dialogue.decided.lines.items

-- whether the line of the verdict is among them
abbrev pub is_verdict_waiting : Session → Bool
is_verdict_waiting s = list_any is_verdict_line (lines_waiting s)

-- why a call has failed, if one has
abbrev pub failure_of : Session → Option Failed
failure_of s = s.failure

-- whether the end of a text was told, and how many bytes of it
abbrev pub is_script_ended : Session → Bool
is_script_ended s = s.script.ended

abbrev pub is_answers_ended : Session → Bool
is_answers_ended s = s.answers.ended

abbrev pub is_ended : Side → Session → Bool
is_ended side s = of_side side (is_script_ended s) (is_answers_ended s)

abbrev pub script_count : Session → ℕ
script_count s = s.script.bytes

abbrev pub answers_count : Session → ℕ
answers_count s = s.answers.bytes

-- the lines are all that are decided; or, where a call has failed, the first of them
abbrev pub AreLines : Option Failed → History → List Line → Type 0
AreLines None h ls = AreDecided h ls
AreLines (Some failed) h ls = AreFirstDecided h ls

-- the summary is that of the lines before the one that tells it, or no line does
abbrev pub IsSummaryIn : Option Summary → List Line → Type 0
IsSummaryIn None ls = list_any is_verdict_line ls ≡ false
IsSummaryIn (Some summary) ls = IsSummaryOf summary ls

-- the verdict is that of the line that tells it, or no line does
abbrev pub IsVerdictIn : Option Verdict → List Line → Type 0
IsVerdictIn None ls = list_any is_verdict_line ls ≡ false
IsVerdictIn (Some verdict) ls = IsVerdictOf verdict ls

-- all bytes of a text were counted
pub record IsCounted (fed : Fed) (told : Told) : Type 0 where
  pub bytes : fed.bytes ≡ length told.bytes
  pub fits : length told.bytes < 2 ^ 64

pub record AreCounted (s : Session) (h : History) : Type 0 where
  pub script : IsCounted s.script h.script
  pub answers : IsCounted s.answers h.answers

-- the session was told this. How it goes on is said last, in the words of the code
pub record StandsFor (s : Session) (h : History) : Type 0 where
  pub lines : AreLines (failure_of s) h (h.taken ++ lines_waiting s)
  pub summary : IsSummaryIn s.summary (h.taken ++ lines_waiting s)
  pub script_ended : is_script_ended s ≡ h.script.ended
  pub answers_ended : is_answers_ended s ≡ h.answers.ended
  pub counted : failure_of s ≡ None → AreCounted s h
  pub long : failure_of s ≡ Some Long → IsLong h
  pub goes_on : GoesOn s.summary s.failure s.exchange h
