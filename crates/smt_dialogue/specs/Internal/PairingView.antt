-- What a session keeps of two texts so far, and what it has taken up of them.
use Rattle.std.specs.Prelude.{◌≡◌, ◌<◌, ◌≤◌, ◌^◌, ℕ, List, [], ◌∷◌, ◌++◌, Bool, Option, Some, None, false, true}
use Rattle.std.specs.Prelude.{Ok, is_some, length}
use Rattle.std.specs.List.{list_any}
use Rattle.smt_faults.specs.declared.text_flaw.TextFlaw.{TextFlaw}
use Rattle.smt_text.specs.Reader.{bytes_fed, depth_limit}
use Rattle.smt_text.specs.Reading.{Reads}
use Rattle.smt_trees.specs.Sexp.{Sexps, Nil, Cons, count}
use Rattle.smt_trees.specs.Owned.{sexp_of}
use Rattle.smt_trees.specs.declared.owned.OwnedTree.{OwnedTree}
use Rattle.smt_theory.specs.declared.profile.Profile.{Profile}
use Rattle.smt_script.specs.Command.{Command, command_of, is_check}
use Rattle.smt_script.specs.StackView.{profile_of, start_of}
use Rattle.smt_dialogue.specs.FirstFault.{TextSoFar, turn_after}
use Rattle.smt_dialogue.specs.FirstFault as first_fault
use Rattle.smt_dialogue.specs.History.{of_side}
use Rattle.smt_dialogue.specs.InForce.{has_exited_after, start_by}
use Rattle.smt_dialogue.specs.Pairs.{Pair}
use Rattle.smt_dialogue.specs.Lines.{lines_in}
use Rattle.smt_dialogue.specs.Report.{ArePaired, IsRead, IsTurn, lines_at_end, lines_of_end}
use Rattle.smt_dialogue.specs.SoFar.{AreLinesSoFar, IsBeginning, is_verdict_line, lines_at}
use Rattle.smt_dialogue.specs.Internal.AcceptedState.{Fits, options_of, state_behind}
use Rattle.smt_dialogue.specs.Internal.TreeQueueView.{HasQueue}
use Rattle.smt_dialogue.specs.declared.pairing.Advance.{Advance}
use Rattle.smt_dialogue.specs.declared.pairing.Advance.TheVariants as advances
use Rattle.smt_dialogue.specs.declared.pairing.Pairing.{Pairing}
use Rattle.smt_dialogue.specs.declared.tree_queue.TreeQueue.{TreeQueue}
use Rattle.smt_dialogue.specs.declared.options.Options.{Options}
use Rattle.smt_dialogue.specs.declared.turn.Turn.{Turn}
use Rattle.smt_dialogue.specs.declared.turn.Turn.TheVariants as turns
use Rattle.smt_report.specs.Verdict.{summary_of}
use Rattle.smt_report.specs.declared.line.Line.{Line}
use Rattle.smt_report.specs.declared.line.Side.{Side}
use Rattle.smt_report.specs.declared.summary.Summary.{Summary}

-- the bytes of both texts so far, what is read of them, and the lines that were handed out
pub record Texts : Type 0 where
  pub script_bytes : List ℕ
  pub script : TextSoFar
  pub answers_bytes : List ℕ
  pub answers : TextSoFar
  pub taken : List Line

abbrev pub bytes_at : Side → Texts → List ℕ
bytes_at side texts = of_side side texts.script_bytes texts.answers_bytes

-- with these bytes of a text, and what is read of them
abbrev pub with_read : Side → List ℕ → TextSoFar → Texts → Texts
with_read side bytes text texts = record texts {
  script_bytes = of_side side bytes texts.script_bytes;
  script = of_side side text texts.script;
  answers_bytes = of_side side texts.answers_bytes bytes;
  answers = of_side side texts.answers text;
}

abbrev pub queue_at : Side → Pairing → TreeQueue
queue_at side x = of_side side x.script x.answers

-- the tree in turn, if there is one, is the first of the trees that are left, and a command; no `exit` came before it
abbrev pub IsInTurn : Profile → Option OwnedTree → List Pair → (later left : Sexps) → Type 0
IsInTurn profile None pairs later left = later ≡ left
IsInTurn profile (Some tree) pairs later left =
    (command : Command) × (later ≡ Cons (sexp_of tree) left) × (command_of profile (sexp_of tree) ≡ Ok command)
    × (has_exited_after pairs ≡ false)

-- what comes next closes every window: the command in turn is a check, or no command comes
abbrev pub IsClosing : Profile → Option OwnedTree → Texts → Sexps → Type 0
IsClosing profile (Some tree) texts later =
    (command : Command) → command_of profile (sexp_of tree) ≡ Ok command → is_check command ≡ true
IsClosing profile None texts later = (later ≡ Nil) × (texts.script.fault ≡ None) × (texts.script.told ≡ true)

-- these pairs were taken up, and these trees and answers are left
pub record IsUnderWay (x : Pairing) (texts : Texts) (pairs : List Pair) (later rest : Sexps) : Type 0 where
  pub left : Sexps
  pub in_turn : IsInTurn (profile_of x.dialogue.stack) x.command pairs later left
  pub script_front : HasQueue x.script texts.script_bytes texts.script left
  pub answers_front : HasQueue x.answers texts.answers_bytes texts.answers rest
  pub early : Bool
  pub stands : Fits early (state_behind texts.taken x.dialogue) pairs
  pub closing : early ≡ true → IsClosing (profile_of x.dialogue.stack) x.command texts later
  pub paired : ArePaired (start_of x.dialogue.stack) texts.script texts.answers pairs later rest

-- the law that a text has no more trees than bytes
abbrev pub TreesAreFew : Type 0
TreesAreFew = (max_depth : ℕ) (told : Bool) (bytes : List ℕ) (trees : Sexps) (fault : Option TextFlaw)
    → Reads max_depth told bytes trees fault → count trees ≤ length bytes

-- the exchange is under way, and there are fewer commands and answers than 2^64
pub record HasRoom (x : Pairing) : Type 0 where
  pub few : TreesAreFew
  pub script : bytes_fed x.script.reader < 2 ^ 64
  pub answers : bytes_fed x.answers.reader < 2 ^ 64
  pub way : (texts : Texts) × (pairs : List Pair) × (later : Sexps) × (rest : Sexps)
      × IsUnderWay x texts pairs later rest

-- lists may nest so deep in both texts
pub record AreLimited (max_depth : ℕ) (x : Pairing) : Type 0 where
  pub script : depth_limit x.script.reader ≡ max_depth
  pub answers : depth_limit x.answers.reader ≡ max_depth

-- lists may nest as deep as before
pub record AreLimitedAlike (old new : Pairing) : Type 0 where
  pub script : depth_limit new.script.reader ≡ depth_limit old.script.reader
  pub answers : depth_limit new.answers.reader ≡ depth_limit old.answers.reader

-- no more was fed of either text
pub record IsFedAlike (old new : Pairing) : Type 0 where
  pub script : bytes_fed new.script.reader ≡ bytes_fed old.script.reader
  pub answers : bytes_fed new.answers.reader ≡ bytes_fed old.answers.reader
  pub limits : AreLimitedAlike old new

-- it goes on as this comes of a text
abbrev pub GoesOnWith : Side → (x y : Pairing) → Texts → (told : Bool) → (bytes : List ℕ) → Type 0
GoesOnWith side x y texts told bytes =
    (pairs : List Pair) (later rest : Sexps) (text : TextSoFar) → IsUnderWay x texts pairs later rest
    → IsRead (depth_limit (queue_at side x).reader) told bytes text
    → (left : Sexps) × (after : Sexps) × IsUnderWay y (with_read side bytes text texts) pairs left after

-- the turn of what is left
abbrev pub turn_of : Pairing → Texts → List Pair → (later rest : Sexps) → first_fault.Turn
turn_of x texts pairs later rest = turn_after (start_of x.dialogue.stack) pairs
    (record texts.script { trees = later }) (record texts.answers { trees = rest })

-- what a turn came to: one more pair; or it waits, with what was left; or the dialogue ends behind the pairs
abbrev pub IsTurned : Turn → (old new : Pairing) → Texts → List Pair → (later rest : Sexps) → Type 0
IsTurned turns.GoesOn old new texts pairs later rest =
    (pair : Pair) × (left : Sexps) × (after : Sexps) × IsUnderWay new texts (pairs ++ pair ∷ []) left after
    × (options_of new.dialogue ≡ options_of old.dialogue)
IsTurned (turns.Waits closed) old new texts pairs later rest =
    IsUnderWay new texts pairs later rest × (turn_of old texts pairs later rest ≡ first_fault.Waits closed)
    × (closed ≡ true → IsClosing (profile_of new.dialogue.stack) new.command texts later)
IsTurned (turns.Ends fault) old new texts pairs later rest =
    (early : Bool) × Fits early (state_behind texts.taken new.dialogue) pairs
    × (turn_of old texts pairs later rest ≡ first_fault.Ends fault)

-- the tree is the first of those that are left, and no `exit` came before it; where it is a command, the exchange is
-- under way
pub record IsHeld (t : OwnedTree) (x : Pairing) (texts : Texts) (pairs : List Pair) (later rest : Sexps) : Type 0 where
  pub left : Sexps
  pub first : later ≡ Cons (sexp_of t) left
  pub goes_on : has_exited_after pairs ≡ false
  pub early : Bool
  pub stands : Fits early (state_behind texts.taken x.dialogue) pairs
  pub way : (command : Command) → command_of (profile_of x.dialogue.stack) (sexp_of t) ≡ Ok command
      → IsUnderWay x texts pairs later rest

-- the next tree is in turn; or this turn came in its place
abbrev pub IsNext : Option Turn → (old new : Pairing) → Texts → List Pair → (later rest : Sexps) → Type 0
IsNext None old new texts pairs later rest =
    (t : OwnedTree) × (new.command ≡ Some t) × IsHeld t new texts pairs later rest
IsNext (Some turn) old new texts pairs later rest = IsTurned turn old new texts pairs later rest

-- so it is for all texts by which the exchange is under way
abbrev pub AllTurned : Turn → (old new : Pairing) → Type 0
AllTurned turn old new =
    (texts : Texts) (pairs : List Pair) (later rest : Sexps) → IsUnderWay old texts pairs later rest
    → IsTurned turn old new texts pairs later rest

abbrev pub AllNext : Option Turn → (old new : Pairing) → Type 0
AllNext turn old new =
    (texts : Texts) (pairs : List Pair) (later rest : Sexps) → IsUnderWay old texts pairs later rest
    → IsNext turn old new texts pairs later rest

-- the lines of both texts that are not handed out
abbrev pub waiting : Pairing → List Line
waiting x = x.dialogue.decided.lines.items

-- the turns came to rest: the dialogue waits behind pairs, with the lines that are decided, or has ended behind
-- some, with all lines and this summary
abbrev pub HasRested : Option Summary → Options → Pairing → Texts → Type 0
HasRested None options new texts =
    (closed : Bool) × (pairs : List Pair) × (later : Sexps) × (rest : Sexps)
    × IsUnderWay new texts pairs later rest × (options_of new.dialogue ≡ options)
    × (turn_of new texts pairs later rest ≡ first_fault.Waits closed)
    × (texts.taken ++ waiting new ≡ lines_at options.profile options.limit.steps pairs (first_fault.Waits closed))
HasRested (Some summary) options new texts =
    (fault : Option Line) × (pairs : List Pair)
    × IsTurn (start_by options) texts.script texts.answers pairs (first_fault.Ends fault)
    × (texts.taken ++ waiting new ≡ lines_at_end options.profile options.limit.steps pairs fault)
    × (summary ≡ summary_of (lines_in options.profile options.limit.steps true [] pairs [] ++ lines_of_end fault))

-- turns were taken: more are left, since lines are to be handed out before; or they came to rest
abbrev pub HasAdvanced : Advance → Options → Pairing → Texts → Type 0
HasAdvanced advances.Pauses options new texts =
    (pairs : List Pair) × (later : Sexps) × (rest : Sexps) × IsUnderWay new texts pairs later rest
    × (options_of new.dialogue ≡ options)
HasAdvanced (advances.Rests summary) options new texts = HasRested summary options new texts

-- turns are left only where this was asked for, and a command was taken up
abbrev pub IsAdvance : Advance → Option ℕ → (before after : ℕ) → Type 0
IsAdvance advances.Pauses enough before after = (is_some enough ≡ true) × (before < after) × (after < 2 ^ 64)
IsAdvance (advances.Rests summary) enough before after = Unit {0}

-- what is decided where memory was refused: the first of the lines so far, and not the verdict
abbrev pub IsCut : Options → List Line → Texts → Type 0
IsCut options ls texts =
    (all : List Line) × AreLinesSoFar options texts.script texts.answers all × IsBeginning (texts.taken ++ ls) all
    × (list_any is_verdict_line (texts.taken ++ ls) ≡ false)
