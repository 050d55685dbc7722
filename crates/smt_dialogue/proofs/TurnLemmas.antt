-- What one turn of a dialogue comes to, by what its command takes.
use Rattle.std.proofs.Common.{◌≡◌, ℕ, ◌+◌, Bool, List, [], ◌∷◌, ◌++◌, length, Option, Some, None}
use Rattle.std.proofs.Common.{ap, sym, ◌∙◌, subst}
use Rattle.std.specs.Prelude.{option_map}
use Rattle.smt_trees.specs.Sexp.{Sexps}
use Rattle.smt_faults.specs.declared.command_flaw.CommandFlaw.{CommandFlaw}
use Rattle.smt_faults.specs.declared.text_flaw.TextFlaw.{TextFlaw}
use Rattle.smt_script.specs.Command.{Command, is_check}
use Rattle.smt_dialogue.specs.Answers.{need_of, taken}
use Rattle.smt_dialogue.specs.FirstFault as first_fault
use Rattle.smt_dialogue.specs.FirstFault.{TextSoFar, is_over, turn_of_flaw, turn_of_taken, want_of_answer}
use Rattle.smt_dialogue.specs.InForce.{flaw_of_pair, print_success_after}
use Rattle.smt_dialogue.specs.Pairs.{Pair, answers_taken, next_of, pair_of}
use Rattle.smt_dialogue.specs.Internal.AnswerView.{tree_of}
use Rattle.smt_dialogue.specs.Internal.NextAnswerView.{IsTaken, answering_view}
use Rattle.smt_dialogue.specs.Internal.AcceptedState.{Fits, State, StandsFor}
use Rattle.smt_dialogue.specs.Internal.TreeQueueView.{HasQueue}
use Rattle.smt_dialogue.specs.Internal.Turns.{GoesOn, IsTakenUp, taken_for}
use Rattle.smt_dialogue.specs.declared.need.Need.{Need}
use Rattle.smt_dialogue.specs.declared.answer.TakenAnswer.{TakenAnswer}
use Rattle.smt_dialogue.specs.declared.next_answer.NextAnswer.{NextAnswer}
use Rattle.smt_dialogue.specs.declared.next_answer.NextAnswer.TheVariants as found
use Rattle.smt_dialogue.specs.declared.tree_queue.TreeQueue.{TreeQueue}
use Rattle.smt_dialogue.specs.declared.turn.Turn.TheVariants as turns
use Rattle.smt_report.specs.declared.line.Line.{Line}
use Rattle.smt_report.specs.declared.line.Line.TheVariants as lines
use Rattle.smt_script.specs.declared.stack.Start.{Start}

-- what the command takes, by what it needs
pub takes_so : (start : Start) (on : Bool) (pairs : List Pair) (c : Command) (need : Need) (a : NextAnswer)
    (text : TextSoFar) (rest : Sexps) (bytes : List ℕ) (front : TreeQueue)
    → need ≡ need_of start.profile on c → on ≡ print_success_after start.print_success pairs
    → IsTaken a need text rest bytes front
    → taken_for start pairs c text rest ≡ answering_view a
takes_so start on pairs c need a text rest bytes front is same h =
    ap (λ n. taken (is_over text) n (next_of rest)) (ap (λ b. need_of start.profile b c) (sym same) ∙ sym is)
    ∙ sym h.taken_so

pub taken_accepted : (start : Start) (on : Bool) (pairs : List Pair) (c : Command) (o : Option TakenAnswer)
    (need : Need) (text : TextSoFar) (rest : Sexps) (bytes : List ℕ) (front : TreeQueue) (new : State)
    → need ≡ need_of start.profile on c → on ≡ print_success_after start.print_success pairs
    → IsTaken (found.Takes o) need text rest bytes front
    → flaw_of_pair start.profile pairs (pair_of c (option_map tree_of o)) ≡ None
    → StandsFor new (pairs ++ pair_of c (option_map tree_of o) ∷ [])
    → GoesOn start pairs c text rest bytes front new
taken_accepted start on pairs c o need text rest bytes front new is same h faultless stands = record {
  answer = option_map tree_of o;
  left = h.left;
  front_is = h.front_is;
  next = h.left_is;
  taken_so = takes_so start on pairs c need (found.Takes o) text rest bytes front is same h;
  faultless = faultless;
  stands = stands;
}

-- where what is left of the answers stays
pub left_kept : (start : Start) (pairs : List Pair) (c : Command) (text : TextSoFar) (rest : Sexps) (bytes : List ℕ)
    (front next : TreeQueue) (new : State)
    → ((bytes : List ℕ) (text : TextSoFar) (rest : Sexps) → HasQueue front bytes text rest → HasQueue next bytes text rest)
    → GoesOn start pairs c text rest bytes front new → GoesOn start pairs c text rest bytes next new
left_kept start pairs c text rest bytes front next new kept h = record {
  answer = h.answer;
  left = h.left;
  front_is = kept bytes text h.left h.front_is;
  next = h.next;
  taken_so = h.taken_so;
  faultless = h.faultless;
  stands = h.stands;
}

pub taken_refused : (early : Bool) (start : Start) (on : Bool) (pairs : List Pair) (c : Command)
    (o : Option TakenAnswer) (need : Need) (text : TextSoFar) (rest : Sexps) (bytes : List ℕ) (front : TreeQueue)
    (new : State) (n : ℕ) (flaw : CommandFlaw) (line : Line)
    → need ≡ need_of start.profile on c → on ≡ print_success_after start.print_success pairs
    → n ≡ length pairs + 1 → line ≡ lines.CommandFault n flaw
    → IsTaken (found.Takes o) need text rest bytes front
    → flaw_of_pair start.profile pairs (pair_of c (option_map tree_of o)) ≡ Some flaw → Fits early new pairs
    → IsTakenUp (turns.Ends (Some line)) early start pairs c text rest bytes front new
taken_refused early start on pairs c o need text rest bytes front new n flaw line is same count told h flawed stands =
    let takes = takes_so start on pairs c need (found.Takes o) text rest bytes front is same h in (
      ap (turn_of_taken start.profile pairs c text.fault) takes ∙ ap (turn_of_flaw (length pairs + 1)) flawed
          ∙ ap (λ k. first_fault.Ends (Some (lines.CommandFault k flaw))) (sym count)
          ∙ ap (λ l. first_fault.Ends (Some l)) (sym told),
      stands,
    )

pub taken_waits : (early : Bool) (start : Start) (on : Bool) (pairs : List Pair) (c : Command) (need : Need)
    (text : TextSoFar)
    (rest : Sexps) (bytes : List ℕ) (front : TreeQueue) (new : State) (closed : Bool)
    → need ≡ need_of start.profile on c → on ≡ print_success_after start.print_success pairs → closed ≡ is_check c
    → IsTaken found.Waits need text rest bytes front → Fits early new pairs
    → IsTakenUp (turns.Waits closed) early start pairs c text rest bytes front new
taken_waits early start on pairs c need text rest bytes front new closed is same check h stands =
    let takes = takes_so start on pairs c need found.Waits text rest bytes front is same h in (
      ap (turn_of_taken start.profile pairs c text.fault) takes ∙ ap first_fault.Waits (sym check),
      subst (HasQueue front bytes text) (sym h.left_is) h.front_is,
      stands,
    )

pub taken_missing : (early : Bool) (start : Start) (on : Bool) (pairs : List Pair) (c : Command) (need : Need)
    (text : TextSoFar)
    (rest : Sexps) (bytes : List ℕ) (front : TreeQueue) (new : State) (fault : Option TextFlaw) (n : ℕ) (line : Line)
    → need ≡ need_of start.profile on c → on ≡ print_success_after start.print_success pairs
    → n ≡ length pairs + 1 → line ≡ want_of_answer n fault
    → IsTaken (found.Missing fault) need text rest bytes front → Fits early new pairs
    → IsTakenUp (turns.Ends (Some line)) early start pairs c text rest bytes front new
taken_missing early start on pairs c need text rest bytes front new fault n line is same count told h stands =
    let takes = takes_so start on pairs c need (found.Missing fault) text rest bytes front is same h in (
      ap (turn_of_taken start.profile pairs c text.fault) takes
          ∙ ap (λ o. first_fault.Ends (Some (want_of_answer (length pairs + 1) o))) (sym h.left_is.1)
          ∙ ap (λ k. first_fault.Ends (Some (want_of_answer k fault))) (sym count)
          ∙ ap (λ l. first_fault.Ends (Some l)) (sym told),
      stands,
    )

pub taken_unfit : (early : Bool) (start : Start) (on : Bool) (pairs : List Pair) (c : Command) (need : Need)
    (text : TextSoFar)
    (rest : Sexps) (bytes : List ℕ) (front : TreeQueue) (new : State) (n m : ℕ)
    → need ≡ need_of start.profile on c → on ≡ print_success_after start.print_success pairs
    → n ≡ length pairs + 1 → m ≡ answers_taken pairs
    → IsTaken found.Unexpected need text rest bytes front → Fits early new pairs
    → IsTakenUp (turns.Ends (Some (lines.UnexpectedAnswer n (m + 1)))) early start pairs c text rest bytes front new
taken_unfit early start on pairs c need text rest bytes front new n m is same count answered h stands =
    let takes = takes_so start on pairs c need found.Unexpected text rest bytes front is same h in (
      ap (turn_of_taken start.profile pairs c text.fault) takes
          ∙ ap (λ k. first_fault.Ends (Some (lines.UnexpectedAnswer k (answers_taken pairs + 1)))) (sym count)
          ∙ ap (λ k. first_fault.Ends (Some (lines.UnexpectedAnswer n (k + 1)))) (sym answered),
      stands,
    )
