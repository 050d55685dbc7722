-- What one turn of a dialogue comes to.
use Rattle.std.specs.Prelude.{◌≡◌, ℕ, List, [], ◌∷◌, ◌++◌, Bool, Option, None}
use Rattle.smt_trees.specs.Sexp.{Sexp, Sexps}
use Rattle.smt_script.specs.Command.{Command}
use Rattle.smt_script.specs.declared.stack.Start.{Start}
use Rattle.smt_dialogue.specs.Answers.{Taken, Takes, taken}
use Rattle.smt_dialogue.specs.FirstFault as first_fault
use Rattle.smt_dialogue.specs.FirstFault.{TextSoFar, is_over, turn_of_taken}
use Rattle.smt_dialogue.specs.InForce.{flaw_of_pair, need_after}
use Rattle.smt_dialogue.specs.Pairs.{Pair, next_of, pair_of, with_answer}
use Rattle.smt_dialogue.specs.Internal.AcceptedState.{Fits, State, StandsFor}
use Rattle.smt_dialogue.specs.Internal.TreeQueueView.{HasQueue}
use Rattle.smt_dialogue.specs.declared.tree_queue.TreeQueue.{TreeQueue}
use Rattle.smt_dialogue.specs.declared.turn.Turn.{Turn}
use Rattle.smt_dialogue.specs.declared.turn.Turn.TheVariants as turns

-- what a contract sees of a turn
abbrev pub turn_view : Turn → first_fault.Turn
turn_view turns.GoesOn = first_fault.GoesOn
turn_view (turns.Waits closed) = first_fault.Waits closed
turn_view (turns.Ends fault) = first_fault.Ends fault

-- what the command takes of these answers
abbrev pub taken_for : Start → List Pair → Command → TextSoFar → Sexps → Taken
taken_for start pairs command text rest =
    taken (is_over text) (need_after start pairs command) (next_of rest)

-- the command was taken up with an answer, or with none, and the others are left
pub record GoesOn (start : Start) (pairs : List Pair) (command : Command) (text : TextSoFar) (rest : Sexps)
    (bytes : List ℕ) (front : TreeQueue) (new : State) : Type 0 where
  pub answer : Option Sexp
  pub left : Sexps
  pub front_is : HasQueue front bytes text left
  pub next : rest ≡ with_answer answer left
  pub taken_so : taken_for start pairs command text rest ≡ Takes answer
  pub faultless : flaw_of_pair start.profile pairs (pair_of command answer) ≡ None
  pub stands : StandsFor new (pairs ++ pair_of command answer ∷ [])

-- the turn of the command behind pairs: it was taken up; or it waits, and nothing is taken; or the dialogue
-- ends with it. `early` says that windows were ended before
abbrev pub IsTakenUp : Turn → (early : Bool) → Start → List Pair → Command → TextSoFar → Sexps → List ℕ → TreeQueue
    → State → Type 0
IsTakenUp turns.GoesOn early start pairs command text rest bytes front new =
    GoesOn start pairs command text rest bytes front new
IsTakenUp (turns.Waits closed) early start pairs command text rest bytes front new =
    (turn_of_taken start.profile pairs command text.fault (taken_for start pairs command text rest)
    ≡ first_fault.Waits closed) × HasQueue front bytes text rest × Fits early new pairs
IsTakenUp (turns.Ends fault) early start pairs command text rest bytes front new =
    (turn_of_taken start.profile pairs command text.fault (taken_for start pairs command text rest)
    ≡ first_fault.Ends fault) × Fits early new pairs
