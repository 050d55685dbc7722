-- What is left of a text that is at hand, whose trees are taken as its pieces are fed.
use Rattle.std.specs.Prelude.{◌≡◌, ◌+◌, ◌-◌, ℕ, Bool, Option, None, option_map, false, true, length, take}
use Rattle.std.specs.Prelude.{if◌then◌else◌}
use Rattle.smt_text.specs.Reader.{depth_limit}
use Rattle.smt_trees.specs.Sexp.{Sexp, Sexps, Nil, append}
use Rattle.smt_dialogue.specs.Answers.{taken}
use Rattle.smt_dialogue.specs.FirstFault.{TextSoFar, is_over}
use Rattle.smt_dialogue.specs.Pairs.{next_of, with_answer}
use Rattle.smt_dialogue.specs.Report.{IsRead}
use Rattle.smt_dialogue.specs.SoFar.{IsGrown}
use Rattle.smt_dialogue.specs.Internal.AnswerView.{tree_of}
use Rattle.smt_dialogue.specs.Internal.NextAnswerView.{answering_view}
use Rattle.smt_dialogue.specs.Internal.TreeQueueView.{HasQueue, IsAhead}
use Rattle.smt_dialogue.specs.declared.given_text.GivenText.{GivenText}
use Rattle.smt_dialogue.specs.declared.need.Need.{Need}
use Rattle.smt_dialogue.specs.declared.next_answer.NextAnswer.{NextAnswer}
use Rattle.smt_dialogue.specs.declared.next_answer.NextAnswer.TheVariants as found
use Rattle.smt_dialogue.specs.declared.tree_queue.Ahead.{Ahead}

-- the whole text is read as this, and of its trees these are left
pub record HasGiven (given : GivenText) (whole : TextSoFar) (rest : Sexps) : Type 0 where
  pub read : IsRead (depth_limit given.queue.reader) true given.text.now whole
  pub so_far : TextSoFar
  pub left : Sexps
  pub queue : HasQueue given.queue (take given.fed given.text.now) so_far left
  pub grown : IsGrown so_far whole
  pub rest_is : rest ≡ append left grown.later

-- this comes next, and as much was fed as that takes: none is left only where none comes
pub record IsLooked (ahead : Ahead) (given : GivenText) (whole : TextSoFar) (rest : Sexps) : Type 0 where
  pub given_is : HasGiven given whole rest
  pub ahead_is : IsAhead ahead given.queue.next given_is.so_far given_is.left
  pub over : given_is.left ≡ Nil → is_over given_is.so_far ≡ true

-- how much is to be fed yet, the end among it
abbrev pub unfed : GivenText → ℕ
unfed given = (length given.text.now - given.fed) + (if given.ended then 0 else 1)

-- the answer that is taken, if one is
abbrev pub taken_tree : NextAnswer → Option Sexp
taken_tree (found.Takes answer) = option_map tree_of answer
taken_tree _ = None

-- this is what a command takes that needs this, of the answers of the whole text
pub record IsTakenOf (answering : NextAnswer) (need : Need) (whole : TextSoFar) (rest : Sexps) (given : GivenText)
    : Type 0 where
  pub left : Sexps
  pub given_is : HasGiven given whole left
  pub taken_so : answering_view answering ≡ taken (is_over whole) need (next_of rest)
  pub left_is : rest ≡ with_answer (taken_tree answering) left
