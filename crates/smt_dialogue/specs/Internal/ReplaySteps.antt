-- The steps from one command to the next.
use Rattle.std.specs.Prelude.{◌≡◌, ℕ, Bool, true, false, Option, Some, None, is_some, Ok}
use Rattle.smt_trees.specs.Sexp.{Sexp}
use Rattle.smt_trees.specs.declared.owned.OwnedTree.{OwnedTree}
use Rattle.smt_script.specs.Command.{Command, command_of}
use Rattle.smt_dialogue.specs.InForce.{has_exited_after, need_after}
use Rattle.smt_dialogue.specs.Replays.{Dialogue, HasEnded, IsAnswered, IsAt, IsBehind, Place, Stands, answer_in_turn}
use Rattle.smt_dialogue.specs.Replays.{command_in_turn}
use Rattle.smt_dialogue.specs.declared.need.Need.{Need}
use Rattle.smt_dialogue.specs.declared.replay.Replay.{Replay}

-- the command in turn was applied, if there was one; or it is refused, and stays
abbrev pub HasApplied : (applied : Bool) → (old new : Replay) → Dialogue → Place → Type 0
HasApplied true old new dialogue place =
    (after : Place) × IsAt new dialogue after × (new.command ≡ None) × (new.answer ≡ None)
    × IsBehind (command_in_turn old) (answer_in_turn old) dialogue place after
HasApplied false old new dialogue place =
    Stands new dialogue place × HasEnded dialogue place × (is_some new.command ≡ true)

-- what the tree in turn needs as a command; or the dialogue ends with it
abbrev pub IsNeed : Option Need → Sexp → Dialogue → Place → Type 0
IsNeed (Some need) tree dialogue place =
    (command : Command) × (command_of dialogue.start.profile tree ≡ Ok command)
    × (has_exited_after place.pairs ≡ false) × (need ≡ need_after dialogue.start place.pairs command)
IsNeed None tree dialogue place = HasEnded dialogue place

-- the answer of the command in turn was found, or the dialogue ends with that command
pub record HasFound (goes_on : Bool) (old new : Replay) (dialogue : Dialogue) (place : Place) : Type 0 where
  pub at : IsAt new dialogue place
  pub command : new.command ≡ old.command
  pub answered : IsAnswered goes_on (command_in_turn new) (answer_in_turn new) dialogue place
