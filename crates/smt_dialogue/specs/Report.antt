-- The report on a script and answers.
use Rattle.std.specs.Prelude.{◌≡◌, ℕ, List, [], ◌∷◌, ◌++◌, Bool, true, Option, Some, None}
use Rattle.smt_text.specs.Reading.{Reads}
use Rattle.smt_trees.specs.Sexp.{Sexps}
use Rattle.smt_theory.specs.declared.profile.Profile.{Profile}
use Rattle.smt_script.specs.declared.stack.Start.{Start}
use Rattle.smt_dialogue.specs.Depth.{max_depth_of}
use Rattle.smt_dialogue.specs.FirstFault.{Ends, TextSoFar, Turn, is_over, turn_after}
use Rattle.smt_dialogue.specs.InForce.{AreFaultless, start_by}
use Rattle.smt_dialogue.specs.Lines.{lines_in}
use Rattle.smt_dialogue.specs.Pairing.{IsPairingSoFar}
use Rattle.smt_dialogue.specs.Pairs.{Pair}
use Rattle.smt_dialogue.specs.declared.options.Options.{Options}
use Rattle.smt_report.specs.Verdict.{with_verdict}
use Rattle.smt_report.specs.declared.line.Line.{Line}

abbrev pub lines_of_end : Option Line → List Line
lines_of_end None = []
lines_of_end (Some line) = line ∷ []

-- the lines where the dialogue ends behind pairs: theirs, where a model may take so many steps, that of the
-- fault, and that of the verdict
abbrev pub lines_at_end : Profile → ℕ → List Pair → Option Line → List Line
lines_at_end profile steps pairs fault = with_verdict (lines_in profile steps true [] pairs [] ++ lines_of_end fault)

-- the pairs are a pairing of the first commands with answers, and none has a fault: these trees and answers
-- are left
pub record ArePaired (start : Start) (script answers : TextSoFar) (pairs : List Pair) (later rest : Sexps)
    : Type 0 where
  pub pairing : IsPairingSoFar (is_over answers) start pairs script.trees later answers.trees rest
  pub faultless : AreFaultless start.profile [] pairs

-- behind the pairs it is this turn
pub record IsTurn (start : Start) (script answers : TextSoFar) (pairs : List Pair) (turn : Turn)
    : Type 0 where
  pub later : Sexps
  pub rest : Sexps
  pub paired : ArePaired start script answers pairs later rest
  pub turn_is : turn_after start pairs (record script { trees = later }) (record answers { trees = rest })
      ≡ turn

-- the lines where a dialogue of these texts ends
pub record AreLinesOf (options : Options) (script answers : TextSoFar) (ls : List Line) : Type 0 where
  pub pairs : List Pair
  pub fault : Option Line
  pub ends : IsTurn (start_by options) script answers pairs (Ends fault)
  pub lines_are : ls ≡ lines_at_end options.profile options.limit.steps pairs fault

-- this is read of the bytes of a text so far, in which lists may nest so deep, and whose end was told or not
pub record IsRead (max_depth : ℕ) (told : Bool) (bytes : List ℕ) (text : TextSoFar) : Type 0 where
  pub told_so : text.told ≡ told
  pub reads : Reads max_depth told bytes text.trees text.fault

-- the report on a script and answers: where the dialogue of what is read of them ends
pub record IsReport (options : Options) (script answers : List ℕ) (ls : List Line) : Type 0 where
  pub script_text : TextSoFar
  pub script_read : IsRead (max_depth_of options.profile) true script script_text
  pub answers_text : TextSoFar
  pub answers_read : IsRead (max_depth_of options.profile) true answers answers_text
  pub lines_are : AreLinesOf options script_text answers_text ls
