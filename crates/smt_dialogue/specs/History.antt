-- What a session was told so far: the pieces of both texts, their ends, and which lines were taken of it.
use Rattle.std.specs.Prelude.{◌≡◌, ◌≤◌, ◌^◌, ℕ, List, [], ◌++◌, ◌⊎◌, length, Bool, true, false}
use Rattle.smt_dialogue.specs.SoFar.{AreGrown, IsBeginning, IsSoFar}
use Rattle.smt_dialogue.specs.declared.options.Options.{Options}
use Rattle.smt_report.specs.declared.line.Line.{Line}
use Rattle.smt_report.specs.declared.line.Side.{Side}
use Rattle.smt_report.specs.declared.line.Side.TheVariants.{Answers, Script}

-- what was told of a text: its bytes so far, and whether they are all
pub record Told : Type 0 where
  pub bytes : List ℕ
  pub ended : Bool

pub record History : Type 0 where
  pub options : Options
  pub script : Told
  pub answers : Told
  pub taken : List Line

-- nothing was told
abbrev pub begun : Options → History
begun options = record {
  options = options;
  script = record { bytes = []; ended = false };
  answers = record { bytes = []; ended = false };
  taken = [];
}

-- both texts were told to their ends, and no line was taken
abbrev pub whole : Options → (script answers : List ℕ) → History
whole options script answers = record {
  options = options;
  script = record { bytes = script; ended = true };
  answers = record { bytes = answers; ended = true };
  taken = [];
}

-- that of the script, or that of the answers
abbrev pub of_side : {A : Type 0} → Side → (script answers : A) → A
of_side Script script answers = script
of_side Answers script answers = answers

abbrev pub other_side : Side → Side
other_side Script = Answers
other_side Answers = Script

abbrev pub text_at : Side → History → Told
text_at side h = of_side side h.script h.answers

-- with another text on this side
abbrev pub with_text : Side → Told → History → History
with_text side told h = record h {
  script = of_side side told h.script;
  answers = of_side side h.answers told;
}

-- and then a piece of a text, and whether its end was told with it
abbrev pub with_more : Side → History → (piece : List ℕ) → (ended : Bool) → History
with_more side h piece ended =
    with_text side (record { bytes = (text_at side h).bytes ++ piece; ended = ended }) h

-- a piece of a text, its end, or lines that were taken
abbrev pub with_piece : Side → History → List ℕ → History
with_piece side h piece = with_more side h piece (text_at side h).ended

abbrev pub with_end : Side → History → History
with_end side h = with_text side (record { bytes = (text_at side h).bytes; ended = true }) h

abbrev pub with_script : History → List ℕ → History
with_script h piece = with_piece Script h piece

abbrev pub with_answers : History → List ℕ → History
with_answers h piece = with_piece Answers h piece

abbrev pub with_script_end : History → History
with_script_end h = with_end Script h

abbrev pub with_answers_end : History → History
with_answers_end h = with_end Answers h

abbrev pub with_taken : History → List Line → History
with_taken h lines = record h { taken = h.taken ++ lines }

-- the lines so far of what was told
abbrev pub AreDecided : History → List Line → Type 0
AreDecided h ls = IsSoFar h.options h.script.ended h.script.bytes h.answers.ended h.answers.bytes ls

-- the first of them
abbrev pub AreFirstDecided : History → List Line → Type 0
AreFirstDecided h ls = (all : List Line) × AreDecided h all × IsBeginning ls all

-- a text has more than 2^64 - 1 bytes
abbrev pub IsLong : History → Type 0
IsLong h = (2 ^ 64 ≤ length h.script.bytes) ⊎ (2 ^ 64 ≤ length h.answers.bytes)

-- more was told of a text
abbrev pub HasMore : Told → Told → Type 0
HasMore t u = AreGrown t.ended t.bytes u.ended u.bytes

-- more was told of the same dialogue
pub record HasGrown (h g : History) : Type 0 where
  pub options : g.options ≡ h.options
  pub script : HasMore h.script g.script
  pub answers : HasMore h.answers g.answers
