-- What a command takes of the answers so far, and what it leaves.
use Rattle.std.specs.Prelude.{◌≡◌, ℕ, List, Option, Some, None, option_map, true, false}
use Rattle.smt_trees.specs.Sexp.{Sexps, Cons}
use Rattle.smt_trees.specs.Owned.{sexp_of}
use Rattle.smt_trees.specs.declared.owned.OwnedTree.{OwnedTree}
use Rattle.smt_dialogue.specs.Answers as answers
use Rattle.smt_dialogue.specs.Answers.{has_form, taken}
use Rattle.smt_dialogue.specs.FirstFault.{TextSoFar, is_over}
use Rattle.smt_dialogue.specs.Pairs.{next_of, with_answer}
use Rattle.smt_dialogue.specs.Internal.AnswerView.{AreKnown, tree_of}
use Rattle.smt_dialogue.specs.Internal.TreeQueueView.{HasQueue}
use Rattle.smt_dialogue.specs.declared.answer.TakenAnswer.{TakenAnswer}
use Rattle.smt_dialogue.specs.declared.need.AnswerForm.{AnswerForm}
use Rattle.smt_dialogue.specs.declared.need.Need.{Need}
use Rattle.smt_dialogue.specs.declared.next_answer.NextAnswer.{NextAnswer}
use Rattle.smt_dialogue.specs.declared.next_answer.NextAnswer.TheVariants as found
use Rattle.smt_dialogue.specs.declared.tree_queue.TreeQueue.{TreeQueue}

-- what a contract sees of what is taken
abbrev pub answering_view : NextAnswer → answers.Taken
answering_view (found.Takes answer) = answers.Takes (option_map tree_of answer)
answering_view found.Waits = answers.Waits
answering_view (found.Missing fault) = answers.Missing
answering_view found.Unexpected = answers.Unexpected

-- what is left: the answers without the one that was taken; where one is missing, the fault is theirs
abbrev pub IsLeft : NextAnswer → TextSoFar → (before after : Sexps) → Type 0
IsLeft (found.Takes answer) text before after = before ≡ with_answer (option_map tree_of answer) after
IsLeft (found.Missing fault) text before after = (before ≡ after) × (fault ≡ text.fault)
IsLeft _ text before after = before ≡ after

-- what the answer says that is taken is what its tree says
abbrev pub IsKnown : NextAnswer → Type 0
IsKnown (found.Takes answer) = AreKnown answer
IsKnown _ = Unit {0}

-- this is what a command takes that needs this, of these answers
pub record IsTaken (answering : NextAnswer) (need : Need) (text : TextSoFar) (rest : Sexps) (bytes : List ℕ)
    (front : TreeQueue) : Type 0 where
  pub left : Sexps
  pub front_is : HasQueue front bytes text left
  pub taken_so : answering_view answering ≡ taken (is_over text) need (next_of rest)
  pub left_is : IsLeft answering text rest left

-- the answer that stood ready was taken, which has this form; or it has another
abbrev pub IsFound : AnswerForm → Option TakenAnswer → Option OwnedTree → TextSoFar → Sexps → List ℕ → TreeQueue
    → Type 0
IsFound form (Some answer) next text rest bytes front =
    (next ≡ Some answer.tree) × (has_form form (tree_of answer) ≡ true)
    × ((later : Sexps) → rest ≡ Cons (tree_of answer) later → HasQueue front bytes text later)
IsFound form None next text rest bytes front =
    ((tree : OwnedTree) → next ≡ Some tree → has_form form (sexp_of tree) ≡ false) × HasQueue front bytes text rest
