-- One step of a session.
use Rattle.std.specs.Prelude.{◌≡◌, ℕ, ◌<◌, ◌+◌, ◌-◌, ◌^◌, ◌++◌, Bool, List, Option, Some, None, true, false}
use Rattle.std.specs.Prelude.{Err, Ok, Result, if◌then◌else◌, is_some}
use Rattle.smt_faults.specs.declared.text_flaw.TextFlaw.{TextFlaw}
use Rattle.smt_text.specs.Reading.{Reads}
use Rattle.smt_trees.specs.Sexp.{Sexps, append}
use Rattle.smt_dialogue.specs.History.{History, of_side}
use Rattle.smt_dialogue.specs.Session.{AreCounted, StandsFor, answers_count, failure_of, is_answers_ended, is_ended}
use Rattle.smt_dialogue.specs.Session.{is_script_ended, script_count}
use Rattle.smt_dialogue.specs.Internal.SessionView.{IsOpen}
use Rattle.smt_dialogue.specs.declared.session.Failed.{Failed}
use Rattle.smt_dialogue.specs.declared.session.Fed.{Fed}
use Rattle.smt_dialogue.specs.declared.session.Session.{Session}
use Rattle.smt_report.specs.declared.line.Side.{Side}
use Rattle.smt_report.specs.declared.summary.Summary.{Summary}

-- the session was told this, and has turns to take
pub record IsGoingOn (s : Session) (h : History) : Type 0 where
  pub failure : failure_of s ≡ None
  pub summary : s.summary ≡ None
  pub script_ended : is_script_ended s ≡ h.script.ended
  pub answers_ended : is_answers_ended s ≡ h.answers.ended
  pub counted : AreCounted s h
  pub open' : IsOpen s.exchange h

-- the session was told this, and turns may be left to take: none are where it has ended or failed
abbrev pub IsFedBy : Option Summary → Option Failed → Session → History → Type 0
IsFedBy (Some summary) failure s h = StandsFor s h
IsFedBy None (Some failed) s h = StandsFor s h
IsFedBy None None s h = IsGoingOn s h

abbrev pub IsFed : Session → History → Type 0
IsFed s h = IsFedBy s.summary (failure_of s) s h

-- turns are left to take, or none are
abbrev pub IsLeftOpen : (more : Bool) → Session → History → Type 0
IsLeftOpen true s h = IsGoingOn s h
IsLeftOpen false s h = StandsFor s h

-- what a call that takes turns comes to
abbrev pub HasTurned : Result Bool Failed → Session → History → Type 0
HasTurned (Ok more) s h = IsLeftOpen more s h
HasTurned (Err failed) s h = StandsFor s h

-- how many commands may still be taken up
abbrev pub turns_left : Session → ℕ
turns_left s = 2 ^ 64 - s.exchange.dialogue.commands

-- turns are left only where this was asked for, and a turn was taken
abbrev pub IsPause : (more : Bool) → Option ℕ → (before after : ℕ) → Type 0
IsPause true enough before after = (is_some enough ≡ true) × (after < before)
IsPause false enough before after = Unit {0}

-- the end of this text was not told; or both were
abbrev pub IsWanted : Option Side → Session → Type 0
IsWanted None s = (is_script_ended s ≡ true) × (is_answers_ended s ≡ true)
IsWanted (Some side) s = is_ended side s ≡ false

-- what was fed of the text of this side, and the session with this
abbrev pub fed_at : Side → Session → Fed
fed_at side s = of_side side s.script s.answers

abbrev pub with_fed : Side → Fed → Session → Session
with_fed side fed s = record s {
  script = of_side side fed s.script;
  answers = of_side side s.answers fed;
}

-- laws of the reader's crate: of each text something is read, and it is one answer that stays
pub record TextLaws : Type 0 where
  pub every : (bound : ℕ) (ended : Bool) (text : List ℕ)
      → (trees : Sexps) × (fault : Option TextFlaw) × Reads bound ended text trees fault
  pub one : (bound : ℕ) (ended : Bool) (text : List ℕ) (xs ys : Sexps) (f g : Option TextFlaw)
      → Reads bound ended text xs f → Reads bound ended text ys g → (xs ≡ ys) × (f ≡ g)
  pub trees_stay : (bound : ℕ) (ended : Bool) (bytes more : List ℕ) (xs ys : Sexps) (f g : Option TextFlaw)
      → Reads bound false bytes xs f → Reads bound ended (bytes ++ more) ys g
      → (later : Sexps) × (ys ≡ append xs later)
  pub faults_stay : (bound : ℕ) (ended : Bool) (bytes more : List ℕ) (xs ys : Sexps) (f : TextFlaw)
      (g : Option TextFlaw) → Reads bound false bytes xs (Some f) → Reads bound ended (bytes ++ more) ys g
      → (ys ≡ xs) × (g ≡ Some f)

-- how much may still come of both texts, and how many ends
abbrev pub left_of : Session → ℕ
left_of s =
    (2 ^ 64 - script_count s) + (if is_script_ended s then 0 else 1)
    + ((2 ^ 64 - answers_count s) + (if is_answers_ended s then 0 else 1))

-- a session that has failed has failed for good
abbrev pub StaysFailed : (before after : Session) → Type 0
StaysFailed before after = (failed : Failed) → failure_of before ≡ Some failed → failure_of after ≡ Some failed

-- no more was told of a text meanwhile
pub record SameTexts (before after : Session) : Type 0 where
  pub script : is_script_ended after ≡ is_script_ended before
  pub answers : is_answers_ended after ≡ is_answers_ended before
  pub left : left_of after ≡ left_of before
