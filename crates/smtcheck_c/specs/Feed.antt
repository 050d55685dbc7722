-- What a session stands for that C tells a dialogue, and what C is told of it.
use Rattle.std.specs.Prelude.{◌≡◌, ◌≢◌, ◌<◌, ◌≤◌, ◌⊎◌, ℕ, List, [], ◌++◌}
use Rattle.std.specs.Prelude.{Bool, Option, Result, None, Some, MatchResult, length}
use Rattle.smt_dialogue.specs.History.{History, begun, with_taken}
use Rattle.smt_dialogue.specs.Run.{text_of_lines}
use Rattle.smt_dialogue.specs.Session.{IsVerdictIn, StandsFor, failure_of, is_answers_ended, is_script_ended}
use Rattle.smt_dialogue.specs.Session.{lines_waiting}
use Rattle.smt_dialogue.specs.Validity.{IsInvalid, IsValid}
use Rattle.smt_dialogue.specs.declared.options.Options.{Options}
use Rattle.smt_dialogue.specs.declared.session.Failed.{Failed}
use Rattle.smt_dialogue.specs.declared.session.Failed.TheVariants.{Long, Memory}
use Rattle.smt_report.specs.Verdict.{status_of}
use Rattle.smt_report.specs.declared.line.Line.{Line}
use Rattle.smt_report.specs.declared.verdict.Verdict.{Verdict}
use Rattle.smtcheck_c.specs.Given.{AreGiven}
use Rattle.smtcheck_c.specs.Told.{IsPut}
use Rattle.smtcheck_c.specs.declared.feed.Feed.{Feed}
use Rattle.smtcheck_c.specs.declared.options.SmtcheckOptions.{SmtcheckOptions}

-- it was told this, and the lines that were taken of it were given to C, but for those that wait here
abbrev pub Feeds : Feed → History → Type 0
Feeds f h = StandsFor f.session (with_taken h f.waiting.items)

-- whatever it was told before, it was told this then
abbrev pub FeedsThen : (before after : Feed) → (History → History) → Type 0
FeedsThen before after next = (h : History) → Feeds before h → Feeds after (next h)

-- all lines that are decided: those that C was given, and those that it was not
abbrev pub lines_of : Feed → History → List Line
lines_of f h = (h.taken ++ f.waiting.items) ++ lines_waiting f.session

abbrev pub is_script_over : Feed → Bool
is_script_over f = is_script_ended f.session

abbrev pub is_answers_over : Feed → Bool
is_answers_over f = is_answers_ended f.session

-- a call has failed where the session says so, and by its failure
abbrev pub IsAnswerOf : {T : Type 0} → Result T Failed → Feed → Type 0
IsAnswerOf r f = MatchResult r (λ _. failure_of f.session ≡ None) (λ failed. failure_of f.session ≡ Some failed)

-- the number that a call answers which told something: 4 or 7 where the session has failed so, and else neither
abbrev pub IsTellingNumber : ℕ → Option Failed → Type 0
IsTellingNumber number None = (number < 4) ⊎ (number ≡ 6)
IsTellingNumber number (Some Memory) = number ≡ 4
IsTellingNumber number (Some Long) = number ≡ 7

-- a session that has failed has failed for good
abbrev pub StaysFailed : Feed → Feed → Type 0
StaysFailed before after =
    (failed : Failed) → failure_of before.session ≡ Some failed → failure_of after.session ≡ Some failed

-- the number is that of the verdict of the lines that are decided; or 6, where none of them tells one; or 4, where
-- memory was refused, or 7, where a text has more than 2^64 - 1 bytes
pub record IsNumberOf (number : ℕ) (f : Feed) (h : History) : Type 0 where
  pub range : (number ≤ 4) ⊎ ((number ≡ 6) ⊎ (number ≡ 7))
  pub verdict : number < 4 → (v : Verdict) × (number ≡ status_of v) × IsVerdictIn (Some v) (lines_of f h)
  pub valid : number ≡ 0 → IsValid h.options h.script.bytes h.answers.bytes
  pub invalid : number ≡ 1 → IsInvalid h.options h.script.bytes h.answers.bytes (lines_of f h)
  pub memory : number ≡ 4 → failure_of f.session ≡ Some Memory
  pub none : number ≡ 6 → IsVerdictIn None (lines_of f h)
  pub long : number ≡ 7 → failure_of f.session ≡ Some Long

-- a handle has a session that was told this
abbrev pub Holds : Option Feed → History → Type 0
Holds handle h = (f : Feed) × (handle ≡ Some f) × Feeds f h

-- it has one of which nothing was told, with the options that C has given
abbrev pub HasBegun : SmtcheckOptions → Option Feed → Type 0
HasBegun given handle = (options : Options) × AreGiven given options × Holds handle (begun options)

-- whatever its session was told before, it has one that was told this then
abbrev pub HoldsThen : (before after : Option Feed) → (History → History) → Type 0
HoldsThen before after next = (h : History) → Holds before h → Holds after (next h)

-- its session has this property
abbrev pub IfHeld : Option Feed → (Feed → Type 0) → Type 0
IfHeld handle P = (f : Feed) → handle ≡ Some f → P f

-- the number is that of its session, whatever it was told
abbrev pub IsNumberHeld : ℕ → Option Feed → Type 0
IsNumberHeld number handle = IfHeld handle (λ f. (h : History) → Feeds f h → IsNumberOf number f h)

-- neither end was told meanwhile
abbrev pub AreEndsOf : Feed → Feed → Type 0
AreEndsOf before after =
    (is_script_over after ≡ is_script_over before) × (is_answers_over after ≡ is_answers_over before)

-- these lines come next: those that wait here, or else those that wait in the session
pub record AreNextLines (f : Feed) (lines : List Line) : Type 0 where
  pub first : f.waiting.items ≡ [] → lines ≡ lines_waiting f.session
  pub waiting : f.waiting.items ≢ [] → lines ≡ f.waiting.items

-- C is given the text of the next lines, or only its length where the buffer has no room for all of it
pub record AreGivenLines (before after : Feed) (wanted : ℕ) (room filled : List ℕ) : Type 0 where
  pub lines : List Line
  pub next : AreNextLines before lines
  pub wanted_is : wanted ≡ length (text_of_lines lines)
  pub put : IsPut (text_of_lines lines) room filled
  pub given : wanted ≤ length room → FeedsThen before after (λ h. with_taken h lines)
  pub none_left : wanted ≤ length room → after.waiting.items ≡ []
  pub kept : length room < wanted → FeedsThen before after (λ h. h)
  pub left : length room < wanted → after.waiting.items ≡ lines
