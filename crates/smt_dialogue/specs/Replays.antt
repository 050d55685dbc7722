-- What a replay of a dialogue stands for: how far the dialogue of two whole texts was gone over, the command in turn
-- with its answer, and the commands that took effect before it.
use Rattle.std.specs.Prelude.{◌≡◌, ◌⊎◌, ◌+◌, ℕ, List, [], ◌∷◌, ◌++◌, length, Bool, true, false, Option, Some, None}
use Rattle.std.specs.Prelude.{Ok, is_some, option_map}
use Rattle.smt_trees.specs.Sexp.{Sexp, Sexps, Nil}
use Rattle.smt_trees.specs.Owned.{sexp_of}
use Rattle.smt_theory.specs.declared.profile.Profile.{Profile}
use Rattle.smt_script.specs.Command.{Command, command_of}
use Rattle.smt_script.specs.Stack.{Numbered}
use Rattle.smt_script.specs.StackView as stacks
use Rattle.smt_script.specs.StackView.{profile_of, start_of}
use Rattle.smt_script.specs.declared.stack.Start.{Start}
use Rattle.smt_dialogue.specs.Answers.{Takes, is_effective_with, taken}
use Rattle.smt_dialogue.specs.Depth.{max_depth_of}
use Rattle.smt_dialogue.specs.FirstFault.{Ends, TextSoFar, Turn, is_over, turn_after}
use Rattle.smt_dialogue.specs.InForce.{has_exited_after, need_after, start_by}
use Rattle.smt_dialogue.specs.Pairs.{Pair, effective_commands, next_of, numbered_if, pair_of, with_answer}
use Rattle.smt_dialogue.specs.Report.{ArePaired, IsRead}
use Rattle.smt_dialogue.specs.Internal.AnswerView.{tree_of}
use Rattle.smt_dialogue.specs.Internal.GivenView.{HasGiven}
use Rattle.smt_dialogue.specs.Internal.ReplayView.{waiting}
use Rattle.smt_dialogue.specs.declared.options.Options.{Options}
use Rattle.smt_dialogue.specs.declared.replay.Replay.{Replay}
use Rattle.smt_report.specs.declared.line.Line.{Line}

-- ---- a dialogue, and a place in it

-- what holds before the first command, and what is read of both whole texts
pub record Dialogue : Type 0 where
  pub start : Start
  pub script : TextSoFar
  pub answers : TextSoFar

-- the dialogue of these bytes
pub record IsDialogue (options : Options) (script answers : List ℕ) (dialogue : Dialogue) : Type 0 where
  pub start : dialogue.start ≡ start_by options
  pub script_read : IsRead (max_depth_of options.profile) true script dialogue.script
  pub answers_read : IsRead (max_depth_of options.profile) true answers dialogue.answers

-- pairs, and the trees and answers that are left behind them
pub record Place : Type 0 where
  pub pairs : List Pair
  pub later : Sexps
  pub rest : Sexps

abbrev pub beginning : Dialogue → Place
beginning dialogue = record { pairs = []; later = dialogue.script.trees; rest = dialogue.answers.trees }

-- the pairs are those with which the dialogue begins
abbrev pub IsPlaceIn : Dialogue → Place → Type 0
IsPlaceIn dialogue place =
    ArePaired dialogue.start dialogue.script dialogue.answers place.pairs place.later place.rest

abbrev pub turn_at : Dialogue → Place → Turn
turn_at dialogue place = turn_after dialogue.start place.pairs (record dialogue.script { trees = place.later })
    (record dialogue.answers { trees = place.rest })

-- the dialogue ends there, with a fault or without one
abbrev pub HasEnded : Dialogue → Place → Type 0
HasEnded dialogue place = (fault : Option Line) × (turn_at dialogue place ≡ Ends fault)

-- ---- a replay

-- how many commands were read: the number of the one in turn
abbrev pub number_of : Replay → ℕ
number_of replay = replay.number

abbrev pub profile_in : Replay → Profile
profile_in replay = profile_of replay.stack

-- the trees of the command in turn and of its answer
abbrev pub command_in_turn : Replay → Option Sexp
command_in_turn replay = option_map sexp_of replay.command

abbrev pub answer_in_turn : Replay → Option Sexp
answer_in_turn replay = option_map tree_of replay.answer

-- what is in force is what these commands leave
abbrev pub StandsFor : Replay → List Numbered → Type 0
StandsFor replay commands = stacks.StandsFor replay.stack commands

-- the command in turn, if it took effect by its answer, comes behind these
abbrev pub IsGrown : Profile → Option Sexp → Option Sexp → ℕ → (before after : List Numbered) → Type 0
IsGrown profile None answer number before after = after ≡ before
IsGrown profile (Some tree) answer number before after =
    (command : Command) × (command_of profile tree ≡ Ok command)
    × (after ≡ before ++ numbered_if (is_effective_with answer) number command)

-- whatever commands are in force, the one in turn comes behind them
abbrev pub GrowsTo : (old new : Replay) → Type 0
GrowsTo old new =
    (commands : List Numbered) → StandsFor old commands
    → (after : List Numbered) × StandsFor new after
    × IsGrown (profile_in old) (command_in_turn old) (answer_in_turn old) (number_of old) commands after

-- the replay is at this place: the next tree is in turn or none is yet, and the answer in turn is the next one or none
pub record IsAt (replay : Replay) (dialogue : Dialogue) (place : Place) : Type 0 where
  pub start : start_of replay.stack ≡ dialogue.start
  pub place_is : IsPlaceIn dialogue place
  pub in_force : StandsFor replay (effective_commands place.pairs)
  pub number : number_of replay ≡ length place.pairs + waiting replay.command
  pub later : Sexps
  pub script : HasGiven replay.script dialogue.script later
  pub command : place.later ≡ with_answer (command_in_turn replay) later
  pub rest : Sexps
  pub answers : HasGiven replay.answers dialogue.answers rest
  pub answer : place.rest ≡ with_answer (answer_in_turn replay) rest

-- the tree in turn is a command that takes this answer, or none; or the dialogue ends with it
abbrev pub IsAnswered : (goes_on : Bool) → (command answer : Option Sexp) → Dialogue → Place → Type 0
IsAnswered true None answer dialogue place = answer ≡ None
IsAnswered true (Some tree) answer dialogue place =
    (command : Command) × (command_of dialogue.start.profile tree ≡ Ok command)
    × (has_exited_after place.pairs ≡ false)
    × (taken (is_over dialogue.answers) (need_after dialogue.start place.pairs command) (next_of place.rest)
    ≡ Takes answer)
IsAnswered false command answer dialogue place =
    (answer ≡ None) × (command ≡ next_of place.later) × HasEnded dialogue place

-- the replay has come to this place: what is in turn there has the answer that the pairing gives to it
pub record Stands (replay : Replay) (dialogue : Dialogue) (place : Place) : Type 0 where
  pub at : IsAt replay dialogue place
  pub answered : IsAnswered replay.goes_on (command_in_turn replay) (answer_in_turn replay) dialogue place

-- the place behind what is in turn: one pair more, or the same place where nothing is in turn
abbrev pub IsBehind : (command answer : Option Sexp) → Dialogue → (before after : Place) → Type 0
IsBehind None answer dialogue before after = after ≡ before
IsBehind (Some tree) answer dialogue before after =
    (command : Command) × (command_of dialogue.start.profile tree ≡ Ok command)
    × (after.pairs ≡ before.pairs ++ pair_of command answer ∷ [])

-- the replay went on: what was in turn is a pair, and the next tree is in turn; or the dialogue ends, with what is in
-- turn or at the end of the script
abbrev pub IsStep : (goes_on : Bool) → (old new : Replay) → Dialogue → (before after : Place) → Type 0
IsStep true old new dialogue before after =
    IsBehind (command_in_turn old) (answer_in_turn old) dialogue before after
    × (is_some (command_in_turn new) ≡ true)
IsStep false old new dialogue before after =
    HasEnded dialogue after
    × ((after ≡ before) ⊎ (IsBehind (command_in_turn old) (answer_in_turn old) dialogue before after
    × (after.later ≡ Nil)))

pub record HasAdvanced (goes_on : Bool) (old new : Replay) (dialogue : Dialogue) (before : Place) : Type 0 where
  pub after : Place
  pub stands : Stands new dialogue after
  pub command : command_in_turn new ≡ next_of after.later
  pub step : IsStep goes_on old new dialogue before after

-- whether an answer is left behind the one in turn
abbrev pub IsNextAnswer : (is_left : Bool) → (answer : Option Sexp) → Place → Type 0
IsNextAnswer is_left answer place =
    (rest : Sexps) × (place.rest ≡ with_answer answer rest) × (is_left ≡ is_some (next_of rest))
