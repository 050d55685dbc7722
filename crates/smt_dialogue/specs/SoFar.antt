-- The lines that are decided of two texts so far, of which more may come. When a line is told is this project's
-- rule.
use Rattle.std.specs.Prelude.{◌≡◌, ℕ, List, [], ◌++◌, Bool, true, false}
use Rattle.smt_trees.specs.Sexp.{Sexps, Nil, append}
use Rattle.smt_theory.specs.declared.profile.Profile.{Profile}
use Rattle.smt_dialogue.specs.FirstFault.{Ends, GoesOn, IsRest, TextSoFar, Turn, Waits, is_over}
use Rattle.smt_dialogue.specs.InForce.{start_by}
use Rattle.smt_dialogue.specs.Lines.{lines_in}
use Rattle.smt_dialogue.specs.Pairs.{Pair}
use Rattle.smt_dialogue.specs.Depth.{max_depth_of}
use Rattle.smt_dialogue.specs.Report.{IsRead, IsTurn, lines_at_end}
use Rattle.smt_dialogue.specs.declared.options.Options.{Options}
use Rattle.smt_report.specs.declared.line.Line.{Line}
use Rattle.smt_report.specs.declared.line.Line.TheVariants as lines

-- the lines behind pairs where it is this turn: all, where the dialogue ends; where it waits, those of the
-- checks that are decided
abbrev pub lines_at : Profile → ℕ → List Pair → Turn → List Line
lines_at profile steps pairs GoesOn = []
lines_at profile steps pairs (Waits closed) = lines_in profile steps closed [] pairs []
lines_at profile steps pairs (Ends fault) = lines_at_end profile steps pairs fault

-- the lines of a dialogue of these texts, which waits or has ended
pub record AreLinesSoFar (options : Options) (script answers : TextSoFar) (ls : List Line) : Type 0 where
  pub pairs : List Pair
  pub turn : Turn
  pub rests : IsRest turn
  pub turn_is : IsTurn (start_by options) script answers pairs turn
  pub lines_are : ls ≡ lines_at options.profile options.limit.steps pairs turn

-- the lines so far of a script and answers, whose ends were told or not
pub record IsSoFar (options : Options) (script_told : Bool) (script : List ℕ) (answers_told : Bool)
    (answers : List ℕ) (ls : List Line) : Type 0 where
  pub script_text : TextSoFar
  pub script_read : IsRead (max_depth_of options.profile) script_told script script_text
  pub answers_text : TextSoFar
  pub answers_read : IsRead (max_depth_of options.profile) answers_told answers answers_text
  pub lines_are : AreLinesSoFar options script_text answers_text ls

-- ---- growth

-- a text so far with more of it: behind its end or a fault nothing comes
pub record IsGrown (text grown : TextSoFar) : Type 0 where
  pub later : Sexps
  pub trees : grown.trees ≡ append text.trees later
  pub over : is_over text ≡ true → (later ≡ Nil) × (grown.fault ≡ text.fault)
  pub told : text.told ≡ true → grown.told ≡ true

-- bytes so far with more of them, and with their end told or not: behind their end none come
pub record AreGrown (told : Bool) (bytes : List ℕ) (grown_told : Bool) (grown : List ℕ) : Type 0 where
  pub more : List ℕ
  pub bytes_are : grown ≡ bytes ++ more
  pub none_behind : told ≡ true → (more ≡ []) × (grown_told ≡ true)

-- lines with which others begin
abbrev pub IsBeginning : List Line → List Line → Type 0
IsBeginning ls all = (later : List Line) × (all ≡ ls ++ later)

-- whether it is the line of the verdict, behind which none comes
abbrev pub is_verdict_line : Line → Bool
is_verdict_line (lines.Verdict verdict tally) = true
is_verdict_line _ = false
