-- One step of a run.
use Rattle.std.specs.Prelude.{◌≡◌, ℕ, List, ◌++◌, Bool, Option, Some, None, Result, Ok, Err, true, false}
use Rattle.std.specs.Io.KnownBytes.{Appends, IsAtEnd}
use Rattle.smt_dialogue.specs.History.{History, of_side}
use Rattle.smt_dialogue.specs.Run.{ArePulled, Devices, HasStopped, Tap, text_of_lines}
use Rattle.smt_dialogue.specs.Session.{StandsFor, failure_of}
use Rattle.smt_dialogue.specs.Internal.SessionStep.{IsFed, IsLeftOpen}
use Rattle.smt_dialogue.specs.declared.runs.RunFault.{RunFault}
use Rattle.smt_dialogue.specs.declared.runs.RunFault.TheVariants as faults
use Rattle.smt_dialogue.specs.declared.options.Options.{Options}
use Rattle.smt_dialogue.specs.declared.session.Failed.{Failed}
use Rattle.smt_dialogue.specs.declared.session.Failed.TheVariants.{Long, Memory}
use Rattle.smt_dialogue.specs.declared.session.Session.{Session}
use Rattle.smt_report.specs.declared.line.Line.{Line}
use Rattle.smt_report.specs.declared.line.Side.{Side}
use Rattle.smt_report.specs.declared.line.Side.TheVariants.{Answers, Script}

-- what a session was told that was told all that was pulled
abbrev pub history : Options → Devices → (script answers : List ℕ) → List Line → History
history options now script answers taken = record {
  options = options;
  script = record { bytes = script; ended = now.script.ended };
  answers = record { bytes = answers; ended = now.answers.ended };
  taken = taken;
}

-- what may hold of lines
abbrev pub OfLines : Type 1
OfLines = List Line → Type 0

-- these lines were visited behind any others
abbrev pub IsVisiting : (before after : OfLines) → List Line → Type 0
IsVisiting before after ls = (first : List Line) → before first → after (first ++ ls)

-- so far this holds of what was pulled and of the lines that were put and visited
pub record IsRunningBy (visited : OfLines) (holds : History → Type 0) (options : Options)
    (before now : Devices) : Type 0 where
  pub script : List ℕ
  pub answers : List ℕ
  pub taken : List Line
  pub pulled : ArePulled before now script answers
  pub written : Appends before.out now.out (text_of_lines taken)
  pub visits : visited taken
  pub stands : holds (history options now script answers taken)

-- the session was told what was pulled, and the lines that were taken of it were put
abbrev pub IsRunning : (visited : OfLines) → Options → (before now : Devices) → Session → Type 0
IsRunning visited options before now s = IsRunningBy visited (StandsFor s) options before now

-- the same, and turns may be left to take
abbrev pub IsFedRun : (visited : OfLines) → Options → (before now : Devices) → Session → Type 0
IsFedRun visited options before now s = IsRunningBy visited (IsFed s) options before now

-- the same, and turns are left to take or are not
abbrev pub IsPutRun : (visited : OfLines) → (more : Bool) → Options → (before now : Devices) → Session
    → Type 0
IsPutRun visited more options before now s = IsRunningBy visited (IsLeftOpen more s) options before now

-- no call of the session has failed, and no line of it is left to put
pub record IsAtRest (is_done : Session → Type 0) (s : Session) : Type 0 where
  pub failure : failure_of s ≡ None
  pub done : is_done s

-- a source has not failed, and where it has told its end, the session was told it, and nothing is left to come
pub record IsSound (told : Bool) (now : Tap) (broken : Bool) : Type 0 where
  pub ended : told ≡ now.ended
  pub sound : broken ≡ false
  pub end : now.ended ≡ true → IsAtEnd now.to_come

-- both sources have come to their ends, and have told them
pub record AreAtEnd (now : Devices) : Type 0 where
  pub script : now.script.ended ≡ true
  pub answers : now.answers.ended ≡ true
  pub script_end : IsAtEnd now.script.to_come
  pub answers_end : IsAtEnd now.answers.to_come

-- turns were taken as far as both texts have come, or a fault stops the run
abbrev pub HasSettled : (visited : OfLines) → Result Unit RunFault → Options → (before now : Devices)
    → Session → Type 0
HasSettled visited (Ok unit) options before now s = IsRunning visited options before now s
HasSettled visited (Err fault) options before now s = HasStopped options before now visited fault

-- a fault stops the run: where a source has failed the session is as it was, and at rest
abbrev pub IsCutOff : (visited : OfLines) → (is_done : Session → Type 0) → RunFault → Options
    → (before now : Devices) → Session → Type 0
IsCutOff visited is_done faults.Script options before now s =
    IsRunning visited options before now s × IsAtRest is_done s
IsCutOff visited is_done faults.Answers options before now s =
    IsRunning visited options before now s × IsAtRest is_done s
IsCutOff visited is_done fault options before now s = HasStopped options before now visited fault

-- steps of a run come to this
abbrev pub HasStepped : (visited : OfLines) → (is_done : Session → Type 0) → Result Unit RunFault
    → Options → (before now : Devices) → Session → Type 0
HasStepped visited is_done (Ok unit) options before now s = IsRunning visited options before now s
HasStepped visited is_done (Err fault) options before now s = IsCutOff visited is_done fault options before now s

-- with another source on this side, and with another sink
abbrev pub with_tap : Side → Tap → (out : Option (List ℕ)) → Devices → Devices
with_tap side now out all = record {
  script = of_side side now all.script;
  answers = of_side side all.answers now;
  out = out;
}

-- the session has failed so, and no device has
abbrev pub IsFailure : RunFault → Option Failed → Type 0
IsFailure faults.Memory failure = failure ≡ Some Memory
IsFailure faults.Long failure = failure ≡ Some Long
IsFailure _ failure = ⊥

-- how a source that fails is told
abbrev pub fault_at : Side → RunFault
fault_at Script = faults.Script
fault_at Answers = faults.Answers

-- a fault where lines are put
abbrev pub IsPutFault : RunFault → Bool → Type 0
IsPutFault faults.Output broken = broken ≡ true
IsPutFault faults.Memory broken = Unit {0}
IsPutFault faults.Long broken = Unit {0}
IsPutFault _ broken = ⊥

-- a line was not written, since the sink has failed, or memory was refused
abbrev pub IsOutputFailure : RunFault → Bool → Type 0
IsOutputFailure faults.Output broken = broken ≡ true
IsOutputFailure faults.Memory broken = broken ≡ false
IsOutputFailure _ broken = ⊥
