-- What a run over sources and a sink comes to: what was pulled of both texts, and what was put.
use Rattle.std.specs.Prelude.{◌≡◌, ◌≤◌, ◌^◌, ℕ, List, [], ◌∷◌, ◌++◌, ◌⊎◌, length, take, Bool, true, Option}
use Rattle.std.specs.Io.KnownBytes.{Appends, Consumes, IsAtEnd}
use Rattle.smt_dialogue.specs.Report.{IsReport}
use Rattle.smt_dialogue.specs.SoFar.{IsBeginning, IsSoFar}
use Rattle.smt_dialogue.specs.Validity.{IsInvalid, IsValid}
use Rattle.smt_dialogue.specs.declared.runs.RunFault.{RunFault}
use Rattle.smt_dialogue.specs.declared.runs.RunFault.TheVariants as faults
use Rattle.smt_dialogue.specs.declared.options.Options.{Options}
use Rattle.smt_report.specs.LineText.{text_of}
use Rattle.smt_report.specs.Verdict.{IsSummaryOf}
use Rattle.smt_report.specs.declared.line.Line.{Line}
use Rattle.smt_report.specs.declared.summary.Summary.{Summary}
use Rattle.smt_report.specs.declared.verdict.Verdict.TheVariants.{Invalid, Valid}

-- the text of lines: each ends with byte 10
abbrev pub text_of_lines : List Line → List ℕ
text_of_lines [] = []
text_of_lines (line ∷ ls) = (text_of line ++ 10 ∷ []) ++ text_of_lines ls

-- what a source tells: the bytes that it has to come, where they are known, and whether it has told its end
pub record Tap : Type 0 where
  pub to_come : Option (List ℕ)
  pub ended : Bool

-- what the devices of a run tell: both sources, and the bytes that the sink has taken, where they are known
pub record Devices : Type 0 where
  pub script : Tap
  pub answers : Tap
  pub out : Option (List ℕ)

abbrev pub tap : Option (List ℕ) → Bool → Tap
tap to_come ended = record { to_come = to_come; ended = ended }

abbrev pub devices : (script answers : Tap) → Option (List ℕ) → Devices
devices script answers out = record { script = script; answers = answers; out = out }

-- these bytes were pulled of a source
abbrev pub IsPulled : Tap → Tap → List ℕ → Type 0
IsPulled before after given = Consumes before.to_come after.to_come given

-- these bytes were pulled of the two sources
pub record ArePulled (before after : Devices) (script answers : List ℕ) : Type 0 where
  pub script_given : IsPulled before.script after.script script
  pub answers_given : IsPulled before.answers after.answers answers

-- a run to the ends of both texts, with this summary: what was put is the text of their report, the visitor has
-- visited its lines, and the summary is that of the lines before the last
pub record HasRun (options : Options) (before after : Devices) (visited : List Line → Type 0) (summary : Summary)
    : Type 0 where
  pub script : List ℕ
  pub answers : List ℕ
  pub pulled : ArePulled before after script answers
  pub script_ended : after.script.ended ≡ true
  pub answers_ended : after.answers.ended ≡ true
  pub script_end : IsAtEnd after.script.to_come
  pub answers_end : IsAtEnd after.answers.to_come
  pub lines : List Line
  pub report : IsReport options script answers lines
  pub summary_is : IsSummaryOf summary lines
  pub valid : summary.verdict ≡ Valid → IsValid options script answers
  pub invalid : summary.verdict ≡ Invalid → IsInvalid options script answers lines
  pub written : Appends before.out after.out (text_of_lines lines)
  pub visits : visited lines

-- where a source has failed, the whole text of the lines so far was put; at another fault the beginning of it
abbrev pub IsPut : RunFault → Option (List ℕ) → Option (List ℕ) → List ℕ → Type 0
IsPut faults.Script before after text = Appends before after text
IsPut faults.Answers before after text = Appends before after text
IsPut _ before after text = (count : ℕ) × Appends before after (take count text)

-- where a source has failed, all lines so far were visited; at another fault the first of them
abbrev pub AreVisited : RunFault → (visited : List Line → Type 0) → List Line → Type 0
AreVisited faults.Script visited ls = visited ls
AreVisited faults.Answers visited ls = visited ls
AreVisited _ visited ls = (first : List Line) × visited first × IsBeginning first ls

-- a run that was stopped by a fault: what was put is of the lines so far of what was pulled
pub record HasStopped (options : Options) (before after : Devices) (visited : List Line → Type 0) (fault : RunFault)
    : Type 0 where
  pub script : List ℕ
  pub answers : List ℕ
  pub pulled : ArePulled before after script answers
  pub lines : List Line
  pub so_far : IsSoFar options after.script.ended script after.answers.ended answers lines
  pub written : IsPut fault before.out after.out (text_of_lines lines)
  pub visits : AreVisited fault visited lines
  pub long : fault ≡ faults.Long → (2 ^ 64 ≤ length script) ⊎ (2 ^ 64 ≤ length answers)

-- only a device that has failed is blamed
abbrev pub IsBlamed : RunFault → (script answers out : Bool) → Type 0
IsBlamed faults.Script script answers out = script ≡ true
IsBlamed faults.Answers script answers out = answers ≡ true
IsBlamed faults.Output script answers out = out ≡ true
IsBlamed faults.Memory script answers out = Unit {0}
IsBlamed faults.Long script answers out = Unit {0}
