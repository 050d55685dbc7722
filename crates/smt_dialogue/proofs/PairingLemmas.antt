-- What the turns of an exchange come to, by what stands ready of both texts.
use Rattle.std.proofs.Common.{◌≡◌, ℕ, ◌+◌, Bool, true, false, cond, ◌||◌, List, [], ◌∷◌, ◌++◌, length, Option}
use Rattle.std.proofs.Common.{Some, None, is_some, Result, Ok, Err, MatchResult, refl, ap, sym, ◌∙◌, subst}
use Rattle.smt_script.specs.StackView.{profile_of, start_of}
use Rattle.smt_trees.specs.Sexp.{Sexp, Sexps, Nil, Cons, append}
use Rattle.smt_trees.specs.Owned.{sexp_of}
use Rattle.smt_trees.specs.declared.owned.OwnedTree.{OwnedTree}
use Rattle.smt_faults.specs.declared.text_flaw.TextFlaw.{TextFlaw}
use Rattle.smt_faults.specs.declared.command_flaw.CommandFlaw.{CommandFlaw}
use Rattle.smt_faults.specs.declared.command_flaw.CommandFlaw.TheVariants.{AfterExit}
use Rattle.smt_script.specs.Command as commands
use Rattle.smt_script.specs.Command.{command_of}
use Rattle.smt_script.specs.CommandView.{command_view}
use Rattle.smt_script.specs.declared.command.Command as code
use Rattle.smt_dialogue.proofs.PairLemmas.{AllTake-append, AreFaultless-append, answers_then-append}
use Rattle.smt_dialogue.proofs.StepLemmas.{AreCommands-push, turn_by}
use Rattle.std.proofs.lemmas.List.{append-nil}
use Rattle.smt_dialogue.proofs.WaitLemmas.{flaw_waits, waits_check, waits_same}
use Rattle.smt_dialogue.specs.Answers as answering
use Rattle.smt_dialogue.specs.Answers.{Taken, Takes, taken}
use Rattle.smt_dialogue.specs.FirstFault.{Ends, TextSoFar, Waits, is_over, turn_at, turn_of_command, turn_of_end}
use Rattle.smt_dialogue.specs.FirstFault.{turn_of_rest, turn_of_taken}
use Rattle.smt_dialogue.specs.InForce.{flaw_of_pair, has_exited_after, need_after, start_by}
use Rattle.smt_dialogue.specs.Pairs.{Pair, answers_taken, answers_then, next_of, pair_of, with_answer}
use Rattle.smt_dialogue.specs.Report.{ArePaired}
use Rattle.smt_dialogue.specs.Internal.AcceptedState.{Fits, options_of, state_behind}
use Rattle.smt_dialogue.specs.Internal.PairingView.{AllNext, IsClosing, IsHeld, IsInTurn, IsNext, IsTurned, IsUnderWay}
use Rattle.smt_dialogue.specs.Internal.PairingView.{Texts, turn_of}
use Rattle.smt_dialogue.specs.Internal.TreeQueueView.{HasQueue, IsAhead, next_trees}
use Rattle.smt_dialogue.specs.Internal.Turns.{IsTakenUp, taken_for}
use Rattle.smt_dialogue.specs.declared.accepted.AcceptedPairs.{AcceptedPairs}
use Rattle.smt_dialogue.specs.declared.pairing.Pairing.{Pairing}
use Rattle.smt_dialogue.specs.declared.tree_queue.Ahead.TheVariants as comes
use Rattle.smt_dialogue.specs.declared.options.Options.{Options}
use Rattle.smt_dialogue.specs.declared.turn.Turn.{Turn}
use Rattle.smt_dialogue.specs.declared.turn.Turn.TheVariants as turns
use Rattle.smt_report.specs.declared.line.Line.{Line}
use Rattle.smt_report.specs.declared.line.Line.TheVariants as lines
use Rattle.smt_report.specs.declared.line.Side.TheVariants.{Answers, Script}
use Rattle.smt_script.specs.declared.stack.Start.{Start}
use Rattle.smt_theory.specs.declared.profile.Profile.{Profile}

-- ---- texts that are over, or aren't

told_open : (told : Bool) (o : Option TextFlaw) → told || is_some o ≡ false → told ≡ false
told_open true o h = absurd (cc)
told_open false o h = refl

fault_open : (told : Bool) (o : Option TextFlaw) → told || is_some o ≡ false → o ≡ None
fault_open true o h = absurd (cc)
fault_open false None h = refl
fault_open false (Some f) h = absurd (cc)

told_over : (told : Bool) (o : Option TextFlaw) → o ≡ None → told || is_some o ≡ true → told ≡ true
told_over true o none h = refl
told_over false o none h = absurd (let e : false || is_some o ≡ false = ap is_some none in cc)

-- ---- where no command is left

-- the same exchange with other texts looked at
pub looked : (old new : Pairing) (texts : Texts) (pairs : List Pair) (later rest : Sexps)
    → new.dialogue ≡ old.dialogue → new.command ≡ old.command
    → ((left : Sexps) → HasQueue old.script texts.script_bytes texts.script left
    → HasQueue new.script texts.script_bytes texts.script left)
    → ((left : Sexps) → HasQueue old.answers texts.answers_bytes texts.answers left
    → HasQueue new.answers texts.answers_bytes texts.answers left)
    → IsUnderWay old texts pairs later rest → IsUnderWay new texts pairs later rest
looked old new texts pairs later rest dialogue command script answers h = record {
  left = h.left;
  in_turn = subst (λ d. IsInTurn (profile_of d.stack) new.command pairs later h.left) (sym dialogue)
      (subst (λ c. IsInTurn (profile_of old.dialogue.stack) c pairs later h.left) (sym command) h.in_turn);
  script_front = script h.left h.script_front;
  answers_front = answers rest h.answers_front;
  early = h.early;
  stands = subst (λ d. Fits h.early (state_behind texts.taken d) pairs) (sym dialogue) h.stands;
  closing = λ e. subst (λ d. IsClosing (profile_of d.stack) new.command texts later) (sym dialogue)
      (subst (λ c. IsClosing (profile_of old.dialogue.stack) c texts later) (sym command) (h.closing e));
  paired = subst (λ d. ArePaired (start_of d.stack) texts.script texts.answers pairs later rest)
      (sym dialogue) h.paired;
}

turn_here : (x : Pairing) (texts : Texts) (pairs : List Pair) (later rest : Sexps) (told : Bool)
    (fault : Option TextFlaw) → later ≡ Nil → texts.script.told ≡ told → texts.script.fault ≡ fault
    → turn_of x texts pairs later rest
    ≡ turn_at (start_of x.dialogue.stack) pairs (record texts.answers { trees = rest }) told fault Nil
turn_here x texts pairs later rest told fault none is same =
    let at = turn_at (start_of x.dialogue.stack) pairs (record texts.answers { trees = rest }) in
    ap (at texts.script.told texts.script.fault) none ∙ ap (λ b. at b texts.script.fault Nil) is
    ∙ ap (λ o. at told o Nil) same

-- more of the script is waited for
pub script_waits : (x : Pairing) (texts : Texts) (pairs : List Pair) (later rest : Sexps) → later ≡ Nil
    → is_over texts.script ≡ false → turn_of x texts pairs later rest ≡ Waits false
script_waits x texts pairs later rest none open' =
    turn_here x texts pairs later rest false None none (told_open texts.script.told texts.script.fault open')
    (fault_open texts.script.told texts.script.fault open')

pub script_fault : (x : Pairing) (texts : Texts) (pairs : List Pair) (later rest : Sexps) (f : TextFlaw) (line : Line)
    → later ≡ Nil → texts.script.fault ≡ Some f → line ≡ lines.TextFault Script f
    → turn_of x texts pairs later rest ≡ Ends (Some line)
script_fault x texts pairs later rest f line none is told =
    turn_here x texts pairs later rest texts.script.told (Some f) none refl is
    ∙ ap (λ (l : Line). Ends (Some l)) (sym told)

pub script_told : (texts : Texts) → texts.script.fault ≡ None → is_over texts.script ≡ true
    → texts.script.told ≡ true
script_told texts none over = told_over texts.script.told texts.script.fault none over

-- behind the end of the script: what comes of the answers
rest_here : (x : Pairing) (texts : Texts) (pairs : List Pair) (later rest : Sexps) → later ≡ Nil
    → texts.script.fault ≡ None → texts.script.told ≡ true
    → turn_of x texts pairs later rest ≡ turn_of_rest pairs texts.answers.told texts.answers.fault rest
rest_here x texts pairs later rest none fault told = turn_here x texts pairs later rest true None none told fault

pub answers_extra : (x : Pairing) (texts : Texts) (pairs : List Pair) (later rest : Sexps) (next : Option OwnedTree)
    (n : ℕ) → later ≡ Nil → texts.script.fault ≡ None → texts.script.told ≡ true
    → IsAhead comes.Tree next texts.answers rest → n ≡ answers_taken pairs
    → turn_of x texts pairs later rest ≡ Ends (Some (lines.ExtraAnswer (n + 1)))
answers_extra x texts pairs later rest next n none fault told ahead count =
    rest_here x texts pairs later rest none fault told
    ∙ ap (turn_of_rest pairs texts.answers.told texts.answers.fault) ahead.3
    ∙ ap (λ k. Ends (Some (lines.ExtraAnswer (k + 1)))) (sym count)

end_here : (x : Pairing) (texts : Texts) (pairs : List Pair) (later rest : Sexps) (at' : Bool)
    (o : Option TextFlaw) → later ≡ Nil → texts.script.fault ≡ None → texts.script.told ≡ true → rest ≡ Nil
    → texts.answers.told ≡ at' → texts.answers.fault ≡ o
    → turn_of x texts pairs later rest ≡ turn_of_end at' o
end_here x texts pairs later rest at' o none fault told empty is same =
    rest_here x texts pairs later rest none fault told
    ∙ ap (turn_of_rest pairs texts.answers.told texts.answers.fault) empty
    ∙ ap (λ b. turn_of_end b texts.answers.fault) is ∙ ap (turn_of_end at') same

pub answers_wait : (x : Pairing) (texts : Texts) (pairs : List Pair) (later rest : Sexps) (next : Option OwnedTree)
    → later ≡ Nil → texts.script.fault ≡ None → texts.script.told ≡ true
    → IsAhead comes.Wait next texts.answers rest → turn_of x texts pairs later rest ≡ Waits true
answers_wait x texts pairs later rest next none fault told ahead =
    end_here x texts pairs later rest false None none fault told ahead.0
    (told_open texts.answers.told texts.answers.fault ahead.1)
    (fault_open texts.answers.told texts.answers.fault ahead.1)

pub answers_fault : (x : Pairing) (texts : Texts) (pairs : List Pair) (later rest : Sexps) (next : Option OwnedTree)
    (f : TextFlaw) (line : Line) → later ≡ Nil → texts.script.fault ≡ None → texts.script.told ≡ true
    → IsAhead (comes.End (Some f)) next texts.answers rest → line ≡ lines.TextFault Answers f
    → turn_of x texts pairs later rest ≡ Ends (Some line)
answers_fault x texts pairs later rest next f line none fault told ahead is =
    end_here x texts pairs later rest texts.answers.told (Some f) none fault told ahead.0 refl ahead.1
    ∙ ap (λ (l : Line). Ends (Some l)) (sym is)

pub answers_end : (x : Pairing) (texts : Texts) (pairs : List Pair) (later rest : Sexps) (next : Option OwnedTree)
    → later ≡ Nil → texts.script.fault ≡ None → texts.script.told ≡ true
    → IsAhead (comes.End None) next texts.answers rest → turn_of x texts pairs later rest ≡ Ends None
answers_end x texts pairs later rest next none fault told ahead =
    end_here x texts pairs later rest true None none fault told ahead.0
    (told_over texts.answers.told texts.answers.fault ahead.1 ahead.2) ahead.1

-- ---- the next command

-- the tree that was taken is in turn
pub tree_taken : (old new : Pairing) (texts : Texts) (pairs : List Pair) (later rest : Sexps) (t : OwnedTree)
    → old.command ≡ None → new.command ≡ Some t → new.dialogue ≡ old.dialogue
    → new.answers ≡ old.answers → old.script.next ≡ Some t
    → ((bytes : List ℕ) (text : TextSoFar) (left : Sexps)
    → HasQueue old.script bytes text (Cons (sexp_of t) left) → HasQueue new.script bytes text left)
    → has_exited_after pairs ≡ false → IsUnderWay old texts pairs later rest
    → IsNext None old new texts pairs later rest
tree_taken old new texts pairs later rest t none some dialogue answers ready taken' goes_on h =
    let left : later ≡ h.left = subst
    (λ o. IsInTurn (profile_of old.dialogue.stack) o pairs later h.left) none h.in_turn in
    let behind = h.script_front.behind in
    let first : h.left ≡ Cons (sexp_of t) behind =
    h.script_front.begins ∙ ap (λ o. append (next_trees o) behind) ready in (
      t,
      some,
      record {
        left = behind;
        first = left ∙ first;
        goes_on = goes_on;
        early = h.early;
        stands = subst (λ d. Fits h.early (state_behind texts.taken d) pairs) (sym dialogue) h.stands;
        way = λ c read. record {
          left = behind;
          in_turn = subst (λ o. IsInTurn (profile_of new.dialogue.stack) o pairs later behind) (sym some)
              (c, left ∙ first, read, goes_on);
          script_front = taken' texts.script_bytes texts.script behind
              (subst (HasQueue old.script texts.script_bytes texts.script) first h.script_front);
          answers_front = subst (λ f. HasQueue f texts.answers_bytes texts.answers rest) (sym answers)
              h.answers_front;
          early = h.early;
          stands = subst (λ d. Fits h.early (state_behind texts.taken d) pairs) (sym dialogue) h.stands;
          closing = λ e. absurd (let empty : Cons (sexp_of t) behind ≡ Nil =
              sym (left ∙ first) ∙
              (subst (λ o. IsClosing (profile_of old.dialogue.stack) o texts later) none (h.closing e)).0 in cc);
          paired =
              subst (λ d. ArePaired (start_of d.stack) texts.script texts.answers pairs later rest)
              (sym dialogue) h.paired;
        };
      },
    )

-- a tree that was in turn stays so
pub tree_stays : (x : Pairing) (texts : Texts) (pairs : List Pair) (later rest : Sexps) → true ≡ is_some x.command
    → IsUnderWay x texts pairs later rest → IsNext None x x texts pairs later rest
tree_stays x texts pairs later rest some h = by x.command refl
  where
    by : (o : Option OwnedTree) → x.command ≡ o → IsNext None x x texts pairs later rest
    by None e = absurd (let none : true ≡ false = some ∙ ap is_some e in cc)
    by (Some t) e =
        let turn = subst (λ o. IsInTurn (profile_of x.dialogue.stack) o pairs later h.left) e h.in_turn in (
          t,
          e,
          record {
            left = h.left;
            first = turn.1;
            goes_on = turn.3;
            early = h.early;
            stands = h.stands;
            way = λ c read. h;
          },
        )

-- ---- the command in turn

-- one more pair
pub paired_push : (start : Start) (script answers : TextSoFar) (pairs : List Pair) (tree : Sexp) (c : commands.Command)
    (o : Option Sexp) (left rest after : Sexps) → command_of start.profile tree ≡ Ok c → has_exited_after pairs ≡ false
    → rest ≡ with_answer o after
    → taken (is_over answers) (need_after start pairs c) (next_of rest) ≡ Takes o
    → flaw_of_pair start.profile pairs (pair_of c o) ≡ None
    → ArePaired start script answers pairs (Cons tree left) rest
    → ArePaired start script answers (pairs ++ pair_of c o ∷ []) left after
paired_push start script answers pairs tree c o left rest after read goes_on next takes faultless h =
    let p = pair_of c o in
    record {
      pairing = record {
        commands = AreCommands-push start.profile pairs p script.trees tree left h.pairing.commands read;
        answered = h.pairing.answered ∙ ap (answers_then pairs) next ∙ sym (answers_then-append pairs (p ∷ []) after);
        taken_so = AllTake-append (is_over answers) start [] pairs p rest after h.pairing.taken_so next takes;
      };
      faultless = AreFaultless-append start.profile [] pairs p h.faultless goes_on faultless;
    }

-- the turn of the command in turn is what it takes
command_turn : (x : Pairing) (texts : Texts) (pairs : List Pair) (later rest : Sexps) (t : Sexp)
    (c : commands.Command) (left : Sexps) → later ≡ Cons t left
    → command_of (profile_of x.dialogue.stack) t ≡ Ok c → has_exited_after pairs ≡ false
    → turn_of x texts pairs later rest
    ≡ turn_of_taken (profile_of x.dialogue.stack) pairs c texts.answers.fault
    (taken_for (start_of x.dialogue.stack) pairs c texts.answers rest)
command_turn x texts pairs later rest t c left first read goes_on =
    let start = start_of x.dialogue.stack in
    let answers = record texts.answers { trees = rest } in
    ap (turn_at start pairs answers texts.script.told texts.script.fault) first
    ∙ ap (λ b. cond b (Ends (Some (lines.CommandFault (length pairs + 1) AfterExit)))
    (turn_of_command start pairs (command_of (profile_of x.dialogue.stack) t) answers)) goes_on
    ∙ turn_by start pairs t answers c (taken_for start pairs c texts.answers rest) read refl

same_command : (r : Result commands.Command CommandFlaw) (c d : commands.Command) → r ≡ Ok c → r ≡ Ok d → c ≡ d
same_command r c d h k = cc

pub taken_up : (turn : Turn) (old new : Pairing) (texts : Texts) (pairs : List Pair) (later rest : Sexps)
    (t : OwnedTree) (c : commands.Command) → old.command ≡ Some t
    → command_of (profile_of old.dialogue.stack) (sexp_of t) ≡ Ok c
    → ((bytes : List ℕ) (text : TextSoFar) (left : Sexps) → HasQueue old.script bytes text left
    → HasQueue new.script bytes text left)
    → options_of new.dialogue ≡ options_of old.dialogue
    → (turn ≡ turns.GoesOn → new.command ≡ None) → ((closed : Bool) → turn ≡ turns.Waits closed → new.command ≡ Some t)
    → ((early : Bool) → Fits early (state_behind texts.taken old.dialogue) pairs
    → (early ≡ true → commands.is_check c ≡ true)
    → IsTakenUp turn early (start_of old.dialogue.stack) pairs c texts.answers rest
    texts.answers_bytes new.answers (state_behind texts.taken new.dialogue))
    → IsUnderWay old texts pairs later rest → IsTurned turn old new texts pairs later rest
taken_up turns.GoesOn old new texts pairs later rest t c some read script start gone stays ups h =
    let up = ups h.early h.stands
    (λ e. subst (λ o. IsClosing (profile_of old.dialogue.stack) o texts later) some (h.closing e) c read) in
    let turn = subst (λ o. IsInTurn (profile_of old.dialogue.stack) o pairs later h.left) some h.in_turn in
    let before = subst (λ l. ArePaired (start_of old.dialogue.stack) texts.script texts.answers pairs
    l rest) turn.1 h.paired in
    let after = paired_push (start_of old.dialogue.stack) texts.script texts.answers pairs (sexp_of t)
    c up.answer h.left rest up.left read turn.3 up.next up.taken_so up.faultless before in (
      pair_of c up.answer,
      h.left,
      up.left,
      record {
        left = h.left;
        in_turn = subst (λ o. IsInTurn (profile_of new.dialogue.stack) o
            (pairs ++ pair_of c up.answer ∷ []) h.left h.left) (sym (gone refl)) refl;
        script_front = script texts.script_bytes texts.script h.left h.script_front;
        answers_front = up.front_is;
        early = false;
        stands = up.stands;
        closing = λ e. absurd (cc);
        paired = subst (λ (o : Options). ArePaired (start_by o) texts.script texts.answers
            (pairs ++ pair_of c up.answer ∷ []) h.left up.left) (sym start) after;
      },
      start,
    )
taken_up (turns.Waits closed) old new texts pairs later rest t c some read script start gone stays ups h =
    let up = ups h.early h.stands
    (λ e. subst (λ o. IsClosing (profile_of old.dialogue.stack) o texts later) some (h.closing e) c read) in
    let turn = subst (λ o. IsInTurn (profile_of old.dialogue.stack) o pairs later h.left) some h.in_turn in (
      record {
        left = h.left;
        in_turn = subst (λ (o : Options). IsInTurn o.profile new.command pairs later h.left) (sym start)
            (subst (λ o. IsInTurn (profile_of old.dialogue.stack) o pairs later h.left)
            (some ∙ sym (stays closed refl)) h.in_turn);
        script_front = script texts.script_bytes texts.script h.left h.script_front;
        answers_front = up.1;
        early = h.early;
        stands = up.2;
        closing = λ e. subst (λ (o : Options). IsClosing o.profile new.command texts later) (sym start)
            (subst (λ o. IsClosing (profile_of old.dialogue.stack) o texts later) (some ∙ sym (stays closed refl))
            (h.closing e));
        paired = subst (λ (o : Options). ArePaired (start_by o) texts.script texts.answers pairs later rest)
            (sym start) h.paired;
      },
      command_turn old texts pairs later rest (sexp_of t) c h.left turn.1 read turn.3 ∙ up.0,
      λ e. subst (λ o. IsClosing (profile_of new.dialogue.stack) o texts later) (sym (stays closed refl)) (λ d again.
          let same : c ≡ d = same_command (command_of (profile_of old.dialogue.stack) (sexp_of t)) c d read
          (subst (λ (o : Options). command_of o.profile (sexp_of t) ≡ Ok d) start again) in
          subst (λ k. commands.is_check k ≡ true) same
          (waits_check (profile_of old.dialogue.stack) pairs c texts.answers.fault
          (taken_for (start_of old.dialogue.stack) pairs c texts.answers rest) (up.0 ∙ ap Waits e))),
    )
taken_up (turns.Ends fault) old new texts pairs later rest t c some read script start gone stays ups h =
    let up = ups h.early h.stands
    (λ e. subst (λ o. IsClosing (profile_of old.dialogue.stack) o texts later) some (h.closing e) c read) in
    let turn = subst (λ o. IsInTurn (profile_of old.dialogue.stack) o pairs later h.left) some h.in_turn in
    (h.early, up.1, command_turn old texts pairs later rest (sexp_of t) c h.left turn.1 read turn.3 ∙ up.0)

-- the command that a tree was read as is the command of the tree
pub read_again : (profile own : Profile) (t u : Sexp) (r : Result commands.Command CommandFlaw) → own ≡ profile → u ≡ t
    → command_of own u ≡ r → command_of profile t ≡ r
read_again profile own t u r p q h = ap (λ x. command_of x t) (sym p) ∙ ap (command_of own) (sym q) ∙ h

-- a tree that is a command is read
pub unread : (r : Result code.Command CommandFlaw) (profile : Profile) (t : Sexp) (c : commands.Command)
    → ((x : code.Command) → r ≡ Ok x → ⊥)
    → MatchResult r (λ k. command_of profile t ≡ Ok (command_view k)) (λ flaw. command_of profile t ≡ Err flaw)
    → command_of profile t ≡ Ok c → ⊥
unread (Ok x) profile t c none h read = none x refl
unread (Err flaw) profile t c none h read = absurd (let e = sym read ∙ h in cc)

-- ---- one turn behind another

same_turn : (old middle : Pairing) (texts : Texts) (pairs : List Pair) (later rest : Sexps)
    → middle.dialogue ≡ old.dialogue
    → turn_of middle texts pairs later rest ≡ turn_of old texts pairs later rest
same_turn old middle texts pairs later rest same =
    ap (λ d. turn_at (start_of d.stack) pairs (record texts.answers { trees = rest })
    texts.script.told texts.script.fault later) same

pub turned_behind : (turn : Turn) (old middle new : Pairing) (texts : Texts) (pairs : List Pair) (later rest : Sexps)
    → middle.dialogue ≡ old.dialogue → IsTurned turn middle new texts pairs later rest
    → IsTurned turn old new texts pairs later rest
turned_behind turns.GoesOn old middle new texts pairs later rest same h =
    (h.0, h.1, h.2, h.3, h.4 ∙ ap options_of same)
turned_behind (turns.Waits closed) old middle new texts pairs later rest same h =
    (h.0, sym (same_turn old middle texts pairs later rest same) ∙ h.1, h.2)
turned_behind (turns.Ends fault) old middle new texts pairs later rest same h =
    (h.0, h.1, sym (same_turn old middle texts pairs later rest same) ∙ h.2)

-- where no turn came in its place, a tree is in turn
pub next_there : (o : Option Turn) (old new : Pairing) (texts : Texts) (pairs : List Pair) (later rest : Sexps)
    → o ≡ None → AllNext o old new → IsUnderWay old texts pairs later rest
    → IsNext None old new texts pairs later rest
next_there o old new texts pairs later rest none next h =
    subst (λ (t : Option Turn). IsNext t old new texts pairs later rest) none (next texts pairs later rest h)

pub held_there : (o : Option Turn) (old new : Pairing) (texts : Texts) (pairs : List Pair) (later rest : Sexps)
    (t : OwnedTree) → o ≡ None → new.command ≡ Some t → AllNext o old new → IsUnderWay old texts pairs later rest
    → IsHeld t new texts pairs later rest
held_there o old new texts pairs later rest t none some next h =
    let n = next_there o old new texts pairs later rest none next h in
    let same : n.0 ≡ t = let e : Some n.0 ≡ Some t = sym n.1 ∙ some in cc in
    subst (λ (u : OwnedTree). IsHeld u new texts pairs later rest) same n.2

-- a tree that is no command ends the dialogue
pub refused_turn : (old new : Pairing) (texts : Texts) (pairs : List Pair) (later rest : Sexps) (t : OwnedTree)
    (flaw : CommandFlaw) (line : Line) → IsHeld t new texts pairs later rest → new.dialogue ≡ old.dialogue
    → command_of (profile_of new.dialogue.stack) (sexp_of t) ≡ Err flaw
    → line ≡ lines.CommandFault (new.dialogue.commands + 1) flaw
    → IsTurned (turns.Ends (Some line)) old new texts pairs later rest
refused_turn old new texts pairs later rest t flaw line h same read is =
    let start = start_of new.dialogue.stack in
    let answers = record texts.answers { trees = rest } in (
      h.early,
      h.stands,
      sym (same_turn old new texts pairs later rest same)
          ∙ ap (turn_at start pairs answers texts.script.told texts.script.fault) h.first
          ∙ ap (λ b. cond b (Ends (Some (lines.CommandFault (length pairs + 1) AfterExit)))
          (turn_of_command start pairs (command_of (profile_of new.dialogue.stack) (sexp_of t)) answers)) h.goes_on
          ∙ ap (λ r. turn_of_command start pairs r answers) read
          ∙ ap (λ n. Ends (Some (lines.CommandFault (n + 1) flaw))) (sym h.stands.commands)
          ∙ ap (λ (l : Line). Ends (Some l)) (sym is),
    )

pub is_ready : (next : Option OwnedTree) (texts : TextSoFar) (rest : Sexps) → IsAhead comes.Tree next texts rest
    → is_some next ≡ true
is_ready next texts rest h = ap is_some h.2

pub no_command : (o : Option OwnedTree) → false ≡ is_some o → o ≡ None
no_command None h = refl
no_command (Some c) h = absurd (cc)

pub script_left : (x : Pairing) (texts : Texts) (pairs : List Pair) (later rest : Sexps) → x.command ≡ None
    → (h : IsUnderWay x texts pairs later rest) → later ≡ h.left
script_left x texts pairs later rest none h =
    subst (λ o. IsInTurn (profile_of x.dialogue.stack) o pairs later h.left) none h.in_turn

pub next_behind : (turn : Option Turn) (old middle new : Pairing) (texts : Texts) (pairs : List Pair)
    (later rest : Sexps) → middle.dialogue ≡ old.dialogue → IsNext turn middle new texts pairs later rest
    → IsNext turn old new texts pairs later rest
next_behind None old middle new texts pairs later rest same h = h
next_behind (Some turn) old middle new texts pairs later rest same h =
    turned_behind turn old middle new texts pairs later rest same h

-- behind the end of the script no command comes
pub none_closing : (x : Pairing) (texts : Texts) (later : Sexps) → x.command ≡ None → later ≡ Nil
    → texts.script.fault ≡ None → texts.script.told ≡ true
    → IsClosing (profile_of x.dialogue.stack) x.command texts later
none_closing x texts later is none fault told =
    subst (λ o. IsClosing (profile_of x.dialogue.stack) o texts later) (sym is) (none, fault, told)

-- behind the end of the script every window is closed
rest_waits : (pairs : List Pair) (told : Bool) (af : Option TextFlaw) (answers : Sexps) (closed : Bool)
    → turn_of_rest pairs told af answers ≡ Waits closed → closed ≡ true
rest_waits pairs told af (Cons a rest) closed h = absurd (cc)
rest_waits pairs told (Some fault) Nil closed h = absurd (cc)
rest_waits pairs true None Nil closed h = absurd (cc)
rest_waits pairs false None Nil closed h = sym (waits_same h)

-- a command that waits closes every window exactly where it is a check
taken_waits_so : (profile : Profile) (pairs : List Pair) (c : commands.Command) (af : Option TextFlaw) (k : Taken)
    (closed : Bool)
    → turn_of_taken profile pairs c af k ≡ Waits closed → commands.is_check c ≡ closed
taken_waits_so profile pairs c af (Takes o) closed h =
    flaw_waits (length pairs + 1) (flaw_of_pair profile pairs (pair_of c o)) closed h
taken_waits_so profile pairs c af answering.Waits closed h = waits_same h
taken_waits_so profile pairs c af answering.Missing closed h = absurd (cc)
taken_waits_so profile pairs c af answering.Unexpected closed h = absurd (cc)

-- where windows were ended early, the dialogue waits with every window closed
early_by : (x : Pairing) (texts : Texts) (pairs : List Pair) (later rest left : Sexps) (o : Option OwnedTree)
    (closed : Bool) → IsInTurn (profile_of x.dialogue.stack) o pairs later left
    → IsClosing (profile_of x.dialogue.stack) o texts later
    → turn_of x texts pairs later rest ≡ Waits closed → closed ≡ true
early_by x texts pairs later rest left None closed turn h is =
    rest_waits pairs texts.answers.told texts.answers.fault rest closed
    (sym (rest_here x texts pairs later rest h.0 h.1 h.2) ∙ is)
early_by x texts pairs later rest left (Some t) closed turn h is =
    sym (taken_waits_so (profile_of x.dialogue.stack) pairs turn.0 texts.answers.fault
    (taken_for (start_of x.dialogue.stack) pairs turn.0 texts.answers rest) closed
    (sym (command_turn x texts pairs later rest (sexp_of t) turn.0 left turn.1 turn.2 turn.3) ∙ is))
    ∙ h turn.0 turn.2

pub early_closed : (x : Pairing) (texts : Texts) (pairs : List Pair) (later rest : Sexps) (closed : Bool)
    → (h : IsUnderWay x texts pairs later rest) → turn_of x texts pairs later rest ≡ Waits closed
    → h.early ≡ true → closed ≡ true
early_closed x texts pairs later rest closed h is e =
    early_by x texts pairs later rest h.left x.command closed h.in_turn (h.closing e) is

-- ---- the beginning

pub begun : (x : Pairing) (texts : Texts) → x.command ≡ None → Fits false (state_behind texts.taken x.dialogue) []
    → HasQueue x.script texts.script_bytes texts.script texts.script.trees
    → HasQueue x.answers texts.answers_bytes texts.answers texts.answers.trees
    → IsUnderWay x texts [] texts.script.trees texts.answers.trees
begun x texts none stands script answers = record {
  left = texts.script.trees;
  in_turn = subst (λ o. IsInTurn (profile_of x.dialogue.stack) o [] texts.script.trees texts.script.trees)
      (sym none) refl;
  script_front = script;
  answers_front = answers;
  early = false;
  stands = stands;
  closing = λ e. absurd (cc);
  paired = record {
    pairing = record { commands = refl; answered = refl; taken_so = tt };
    faultless = tt;
  };
}

-- ---- lines that are handed out

closing_kept : (profile : Profile) (o : Option OwnedTree) (texts : Texts) (ls : List Line) (later : Sexps)
    → IsClosing profile o texts later → IsClosing profile o (record texts { taken = ls }) later
closing_kept profile None texts ls later h = h
closing_kept profile (Some t) texts ls later h = h

state_same : (d e : AcceptedPairs) (xs ys : List Line)
    → xs ++ d.decided.lines.items ≡ ys ++ e.decided.lines.items → d.decided.tally ≡ e.decided.tally
    → d.stack ≡ e.stack → d.checks ≡ e.checks → d.commands ≡ e.commands → d.answers ≡ e.answers
    → state_behind xs d ≡ state_behind ys e
state_same d e xs ys all tally stack checks commands' answers' = cc

pub handed_out : (x y : Pairing) (texts : Texts) (ls : List Line) (pairs : List Pair) (later rest : Sexps)
    → ls ≡ x.dialogue.decided.lines.items → y.dialogue.decided.lines.items ≡ []
    → y.dialogue.decided.tally ≡ x.dialogue.decided.tally
    → y.dialogue.stack ≡ x.dialogue.stack → y.dialogue.checks ≡ x.dialogue.checks
    → y.dialogue.commands ≡ x.dialogue.commands → y.dialogue.answers ≡ x.dialogue.answers
    → y.script ≡ x.script → y.answers ≡ x.answers → y.command ≡ x.command
    → IsUnderWay x texts pairs later rest
    → IsUnderWay y (record texts { taken = texts.taken ++ ls }) pairs later rest
handed_out x y texts ls pairs later rest out none tally stack checks commands' answers' script answers command h =
    let all : texts.taken ++ x.dialogue.decided.lines.items ≡ (texts.taken ++ ls) ++ y.dialogue.decided.lines.items =
    ap (λ xs. texts.taken ++ xs) (sym out) ∙ sym (append-nil (texts.taken ++ ls))
    ∙ ap (λ xs. (texts.taken ++ ls) ++ xs) (sym none) in
    let same : state_behind texts.taken x.dialogue ≡ state_behind (texts.taken ++ ls) y.dialogue = state_same
    x.dialogue y.dialogue texts.taken (texts.taken ++ ls) all (sym tally) (sym stack) (sym checks) (sym commands')
    (sym answers') in
    record {
      left = h.left;
      in_turn = subst (λ k. IsInTurn (profile_of k) y.command pairs later h.left) (sym stack)
          (subst (λ o. IsInTurn (profile_of x.dialogue.stack) o pairs later h.left) (sym command) h.in_turn);
      script_front = subst (λ f. HasQueue f texts.script_bytes texts.script h.left) (sym script) h.script_front;
      answers_front = subst (λ f. HasQueue f texts.answers_bytes texts.answers rest) (sym answers) h.answers_front;
      early = h.early;
      stands = subst (λ s. Fits h.early s pairs) same h.stands;
      closing = λ e. closing_kept (profile_of y.dialogue.stack) y.command texts (texts.taken ++ ls) later
          (subst (λ k. IsClosing (profile_of k) y.command texts later) (sym stack)
          (subst (λ o. IsClosing (profile_of x.dialogue.stack) o texts later) (sym command) (h.closing e)));
      paired = subst (λ k. ArePaired (start_of k) texts.script texts.answers pairs later rest)
          (sym stack) h.paired;
    }
