-- Words of the laws on what a verdict may not be, and on which checks have their lines.
use Rattle.std.specs.Prelude.{◌≡◌, ℕ, ◌+◌, List, ◌∷◌, ◌++◌, Bool, length}
use Rattle.smt_dialogue.specs.FirstFault.{TextSoFar, Waits}
use Rattle.smt_dialogue.specs.InForce.{start_by}
use Rattle.smt_dialogue.specs.Pairs.{Pair, checks_in}
use Rattle.smt_dialogue.specs.Report.{IsTurn}
use Rattle.smt_dialogue.specs.SoFar.{AreLinesSoFar}
use Rattle.smt_dialogue.specs.Validity.{IsFullyPaired, IsSatCheck}
use Rattle.smt_dialogue.specs.Window.{Printed, models_from, window}
use Rattle.smt_dialogue.specs.declared.options.Options.{Options}
use Rattle.smt_report.specs.declared.line.Line.{Line}
use Rattle.smt_report.specs.declared.line.Line.TheVariants as lines

-- a check that was answered `sat` stands among the pairs of a dialogue that is fully paired
pub record IsSatOf (options : Options) (script answers : List ℕ) (before : List Pair) (check : Pair)
    (after : List Pair) : Type 0 where
  pub paired : IsFullyPaired options script answers (before ++ check ∷ after)
  pub sat : IsSatCheck check

-- the model is printed in the window of the check between these pairs
pub record IsModelIn (before after : List Pair) (model : Printed) : Type 0 where
  pub first : List Printed
  pub last : List Printed
  pub models : models_from (length before + 2) (window after) ≡ first ++ model ∷ last

-- a dialogue of these texts waits, with every window closed or not, and has these lines so far: the check stands
-- among its pairs
pub record IsWaitingWith (options : Options) (script answers : TextSoFar) (before : List Pair) (check : Pair)
    (after : List Pair) (closed : Bool) (ls : List Line) : Type 0 where
  pub waits : IsTurn (start_by options) script answers (before ++ check ∷ after) (Waits closed)
  pub so_far : AreLinesSoFar options script answers ls

-- the line is that of the check with this number, at this command
abbrev pub IsLineOf : (check command : ℕ) → Line → Type 0
IsLineOf check command (lines.Unchecked k n answer) = (k ≡ check) × (n ≡ command)
IsLineOf check command (lines.Confirmed k n) = (k ≡ check) × (n ≡ command)
IsLineOf check command (lines.NoModel k n) = (k ≡ check) × (n ≡ command)
IsLineOf check command (lines.ItemFault k n model item flaw) = (k ≡ check) × (n ≡ command)
IsLineOf check command (lines.Lacks k n model declaration) = (k ≡ check) × (n ≡ command)
IsLineOf check command (lines.TooLong k n model) = (k ≡ check) × (n ≡ command)
IsLineOf check command (lines.Refuted k n model claim) = (k ≡ check) × (n ≡ command)
IsLineOf check command (lines.NotDecided k n model claim) = (k ≡ check) × (n ≡ command)
IsLineOf check command _ = ⊥

-- the line of the check behind these pairs is among the lines
abbrev pub HasItsLine : (before : List Pair) → List Line → Type 0
HasItsLine before ls =
    (first : List Line) × (line : Line) × (last : List Line) × (ls ≡ first ++ line ∷ last)
    × IsLineOf (checks_in before + 1) (length before + 1) line
