-- A replay goes on from one command to the next.
use Rattle.std.proofs.Common.{◌≡◌, ◌≤◌, ℕ, zero, suc, ◌+◌, cond, Bool, true, false, List, [], ◌∷◌, ◌++◌, length}
use Rattle.std.proofs.Common.{Option, Some, None, is_some, Result, Ok, Err, MatchOption, option_map}
use Rattle.std.proofs.Common.{inl, inr, arith, refl, ap, sym, ◌∙◌, subst, length-append, take}
use Rattle.smt_text.specs.Reader.{depth_limit}
use Rattle.smt_trees.specs.Sexp.{Sexp, Sexps, Nil, Cons, append, count}
use Rattle.smt_trees.specs.Owned.{sexp_of}
use Rattle.smt_trees.specs.declared.owned.OwnedTree.{OwnedTree}
use Rattle.smt_faults.specs.declared.text_flaw.TextFlaw.{TextFlaw}
use Rattle.smt_faults.specs.Faults.{flaw_of_command_fault}
use Rattle.smt_faults.specs.Outcome.{TellsCommand}
use Rattle.smt_faults.specs.declared.command_fault.CommandFault.{CommandFault}
use Rattle.smt_faults.specs.declared.command_flaw.CommandFlaw.{CommandFlaw}
use Rattle.smt_faults.specs.declared.command_flaw.CommandFlaw.TheVariants.{AfterExit}
use Rattle.smt_script.specs.Command.{Command, command_of}
use Rattle.smt_script.specs.Stack.{Numbered}
use Rattle.smt_script.specs.StackView as stacks
use Rattle.smt_script.specs.StackView.{profile_of, start_of}
use Rattle.smt_script.specs.declared.stack.Stack.{Stack}
use Rattle.smt_script.specs.declared.stack.Start.{Start}
use Rattle.smt_theory.specs.declared.profile.Profile.{Profile}
use Rattle.smt_dialogue.proofs.AdvanceLemmas.{commands_count}
use Rattle.smt_dialogue.proofs.PairLemmas.{effective_commands-push}
use Rattle.smt_dialogue.proofs.PairingLemmas.{paired_push}
use Rattle.smt_dialogue.proofs.StepLemmas.{turn_by}
use Rattle.smt_dialogue.proofs.TreesLemmas.{count-append}
use Rattle.smt_dialogue.specs.Answers as answering
use Rattle.smt_dialogue.specs.Answers.{Takes, Taken, is_effective_with, taken}
use Rattle.smt_dialogue.specs.Depth.{max_depth_of}
use Rattle.smt_dialogue.specs.FirstFault.{Ends, TextSoFar, is_over, turn_at, turn_of_command}
use Rattle.smt_dialogue.specs.FirstFault.{turn_of_flaw, turn_of_rest, turn_of_taken, want_of_answer}
use Rattle.smt_dialogue.specs.InForce.{has_exited_after, need_after, start_by}
use Rattle.smt_dialogue.specs.Pairs.{Pair, answers_taken, effective_commands, next_of, numbered_if, pair_of, with_answer}
use Rattle.smt_dialogue.specs.Report.{ArePaired, IsRead}
use Rattle.smt_dialogue.specs.Replays as replays
use Rattle.smt_dialogue.specs.Replays.{Dialogue, HasAdvanced, HasEnded, IsAnswered, IsAt, IsBehind, IsDialogue, IsGrown}
use Rattle.smt_dialogue.specs.Replays.{Place, Stands, answer_in_turn, beginning, command_in_turn}
use Rattle.smt_dialogue.specs.Internal.AcceptedState.{flaw_if}
use Rattle.smt_dialogue.specs.Internal.AnswerView.{tree_of}
use Rattle.smt_dialogue.specs.Internal.GivenView.{HasGiven, IsLooked}
use Rattle.smt_dialogue.specs.Internal.PairingView.{TreesAreFew}
use Rattle.smt_dialogue.specs.Internal.ReplaySteps.{HasApplied, HasFound}
use Rattle.smt_dialogue.specs.Internal.ReplayView.{waiting}
use Rattle.smt_dialogue.specs.Internal.TreeQueueView.{IsAhead}
use Rattle.smt_dialogue.specs.declared.answer.TakenAnswer.{TakenAnswer}
use Rattle.smt_dialogue.specs.declared.given_text.GivenText.{GivenText}
use Rattle.smt_dialogue.specs.declared.options.Options.{Options}
use Rattle.smt_dialogue.specs.declared.replay.Replay.{Replay}
use Rattle.smt_dialogue.specs.declared.tree_queue.Ahead.{Ahead}
use Rattle.smt_dialogue.specs.declared.tree_queue.Ahead.TheVariants as comes
use Rattle.smt_report.specs.declared.line.Line.{Line}
use Rattle.smt_report.specs.declared.line.Line.TheVariants as lines
use Rattle.smt_report.specs.declared.line.Side.TheVariants.{Answers, Script}

none_waits : (o : Option OwnedTree) → o ≡ None → waiting o ≡ 0
none_waits o h = ap waiting h

some_waits : (o : Option OwnedTree) (t : OwnedTree) → o ≡ Some t → waiting o ≡ 1
some_waits o t h = ap waiting h

pub waits_at_most : (o : Option OwnedTree) → waiting o ≤ 1
waits_at_most None = omega arith
waits_at_most (Some t) = omega arith

-- the number of the command in turn before the first, and behind one more pair
first_number : (n : ℕ) (pairs : List Pair) (o : Option OwnedTree) → pairs ≡ [] → n ≡ 0 → o ≡ None
    → n ≡ length pairs + waiting o
first_number n pairs o empty unread none = omega (arith, unread, none_waits o none, ap length empty)

next_number : (n m : ℕ) (pairs : List Pair) (p : Pair) (o : Option OwnedTree) → m ≡ n → n ≡ length pairs + 1
    → o ≡ None → m ≡ length (pairs ++ p ∷ []) + waiting o
next_number n m pairs p o same is none =
    omega (arith, same, is, length-append pairs (p ∷ []), none_waits o none)

none_of : {A B : Type 0} (f : A → B) (o : Option A) → option_map f o ≡ None → o ≡ None
none_of f None h = refl
none_of f (Some x) h = absurd (cc)

-- ---- the beginning

pub replay_new : (replay : Replay) (options : Options) (script answers : List ℕ) (dialogue : Dialogue)
    → start_of replay.stack ≡ start_by options → stacks.StandsFor replay.stack [] → replay.number ≡ 0
    → replay.command ≡ None → replay.answer ≡ None → replay.goes_on ≡ true
    → ((whole : TextSoFar) → IsRead (max_depth_of options.profile) true script whole
    → HasGiven replay.script whole whole.trees)
    → ((whole : TextSoFar) → IsRead (max_depth_of options.profile) true answers whole
    → HasGiven replay.answers whole whole.trees)
    → IsDialogue options script answers dialogue → Stands replay dialogue (beginning dialogue)
replay_new replay options script answers dialogue start stands unread none unanswered goes first second d = record {
  at = record {
    start = start ∙ sym d.start;
    place_is = record {
      pairing = record { commands = refl; answered = refl; taken_so = tt };
      faultless = tt;
    };
    in_force = stands;
    number = first_number replay.number [] replay.command refl unread none;
    later = dialogue.script.trees;
    script = first dialogue.script d.script_read;
    command = ap (λ (o : Option OwnedTree). with_answer (option_map sexp_of o) dialogue.script.trees) (sym none);
    rest = dialogue.answers.trees;
    answers = second dialogue.answers d.answers_read;
    answer = ap (λ (o : Option TakenAnswer). with_answer (option_map tree_of o) dialogue.answers.trees)
        (sym unanswered);
  };
  answered = subst (λ b. IsAnswered b (command_in_turn replay) (answer_in_turn replay) dialogue (beginning dialogue))
      (sym goes)
      (subst (λ (o : Option OwnedTree). IsAnswered true (option_map sexp_of o) (answer_in_turn replay) dialogue
      (beginning dialogue)) (sym none) (ap (option_map tree_of) unanswered));
}

-- ---- where a dialogue of whole texts ends

ended_rest : (pairs : List Pair) (told : Bool) (fault : Option TextFlaw) (rest : Sexps) → told ≡ true
    → (f : Option Line) × (turn_of_rest pairs told fault rest ≡ Ends f)
ended_rest pairs told fault (Cons a rest) h = (Some (lines.ExtraAnswer (answers_taken pairs + 1)), refl)
ended_rest pairs told (Some f) Nil h = (Some (lines.TextFault Answers f), refl)
ended_rest pairs true None Nil h = (None, refl)
ended_rest pairs false None Nil h = absurd (cc)

ended_nil : (start : Start) (pairs : List Pair) (answers : TextSoFar) (told : Bool) (fault : Option TextFlaw)
    → told ≡ true → answers.told ≡ true → (f : Option Line) × (turn_at start pairs answers told fault Nil ≡ Ends f)
ended_nil start pairs answers told (Some fault) h g = (Some (lines.TextFault Script fault), refl)
ended_nil start pairs answers true None h g = ended_rest pairs answers.told answers.fault answers.trees g
ended_nil start pairs answers false None h g = absurd (cc)

-- behind the end of the script
pub ended_behind : (dialogue : Dialogue) (place : Place) → dialogue.script.told ≡ true
    → dialogue.answers.told ≡ true → place.later ≡ Nil → HasEnded dialogue place
ended_behind dialogue place script answers none =
    let end' = ended_nil dialogue.start place.pairs (record dialogue.answers { trees = place.rest })
    dialogue.script.told dialogue.script.fault script answers in (
      end'.0,
      ap (turn_at dialogue.start place.pairs (record dialogue.answers { trees = place.rest })
          dialogue.script.told dialogue.script.fault) none ∙ end'.1,
    )

-- with a tree
turn_tree : (dialogue : Dialogue) (place : Place) (t : Sexp) (left : Sexps) → place.later ≡ Cons t left
    → replays.turn_at dialogue place
    ≡ cond (has_exited_after place.pairs) (Ends (Some (lines.CommandFault (length place.pairs + 1) AfterExit)))
    (turn_of_command dialogue.start place.pairs (command_of dialogue.start.profile t)
    (record dialogue.answers { trees = place.rest }))
turn_tree dialogue place t left first =
    ap (turn_at dialogue.start place.pairs (record dialogue.answers { trees = place.rest })
    dialogue.script.told dialogue.script.fault) first

pub ended_exit : (dialogue : Dialogue) (place : Place) (t : Sexp) (left : Sexps) → place.later ≡ Cons t left
    → has_exited_after place.pairs ≡ true → HasEnded dialogue place
ended_exit dialogue place t left first exited = (
  Some (lines.CommandFault (length place.pairs + 1) AfterExit),
  turn_tree dialogue place t left first
      ∙ ap (λ b. cond b (Ends (Some (lines.CommandFault (length place.pairs + 1) AfterExit)))
      (turn_of_command dialogue.start place.pairs (command_of dialogue.start.profile t)
      (record dialogue.answers { trees = place.rest }))) exited,
)

turn_on : (dialogue : Dialogue) (place : Place) (t : Sexp) (left : Sexps) → place.later ≡ Cons t left
    → has_exited_after place.pairs ≡ false
    → replays.turn_at dialogue place
    ≡ turn_of_command dialogue.start place.pairs (command_of dialogue.start.profile t)
    (record dialogue.answers { trees = place.rest })
turn_on dialogue place t left first goes_on =
    turn_tree dialogue place t left first
    ∙ ap (λ b. cond b (Ends (Some (lines.CommandFault (length place.pairs + 1) AfterExit)))
    (turn_of_command dialogue.start place.pairs (command_of dialogue.start.profile t)
    (record dialogue.answers { trees = place.rest }))) goes_on

pub ended_unread : (dialogue : Dialogue) (place : Place) (t : Sexp) (left : Sexps) (flaw : CommandFlaw)
    → place.later ≡ Cons t left → has_exited_after place.pairs ≡ false
    → command_of dialogue.start.profile t ≡ Err flaw → HasEnded dialogue place
ended_unread dialogue place t left flaw first goes_on read = (
  Some (lines.CommandFault (length place.pairs + 1) flaw),
  turn_on dialogue place t left first goes_on
      ∙ ap (λ (r : Result Command CommandFlaw). turn_of_command dialogue.start place.pairs r
      (record dialogue.answers { trees = place.rest })) read,
)

pub ends_untaken : (profile : Profile) (pairs : List Pair) (c : Command) (fault : Option TextFlaw) (k : Taken)
    → ((o : Option Sexp) → k ≡ Takes o → ⊥) → (k ≡ answering.Waits → ⊥)
    → (f : Option Line) × (turn_of_taken profile pairs c fault k ≡ Ends f)
ends_untaken profile pairs c fault (Takes o) takes waits = absurd (takes o refl)
ends_untaken profile pairs c fault answering.Waits takes waits = absurd (waits refl)
ends_untaken profile pairs c fault answering.Missing takes waits =
    (Some (want_of_answer (length pairs + 1) fault), refl)
ends_untaken profile pairs c fault answering.Unexpected takes waits =
    (Some (lines.UnexpectedAnswer (length pairs + 1) (answers_taken pairs + 1)), refl)

-- the turn of a command, by what it takes
pub turn_taken : (dialogue : Dialogue) (place : Place) (t : Sexp) (left : Sexps) (c : Command) (k : Taken)
    → place.later ≡ Cons t left → has_exited_after place.pairs ≡ false → command_of dialogue.start.profile t ≡ Ok c
    → taken (is_over dialogue.answers) (need_after dialogue.start place.pairs c) (next_of place.rest) ≡ k
    → replays.turn_at dialogue place ≡ turn_of_taken dialogue.start.profile place.pairs c dialogue.answers.fault k
turn_taken dialogue place t left c k first goes_on read is =
    turn_on dialogue place t left first goes_on
    ∙ turn_by dialogue.start place.pairs t (record dialogue.answers { trees = place.rest }) c k read is

-- ---- the command in turn is applied

in_turn : (x : Replay) (dialogue : Dialogue) (place : Place) (t : OwnedTree) → x.command ≡ Some t
    → (h : IsAt x dialogue place) → place.later ≡ Cons (sexp_of t) h.later
in_turn x dialogue place t some h =
    h.command ∙ ap (λ (o : Option OwnedTree). with_answer (option_map sexp_of o) h.later) some

answered_on : (x : Replay) (dialogue : Dialogue) (place : Place) (o : Option OwnedTree) → x.goes_on ≡ true
    → x.command ≡ o → Stands x dialogue place → IsAnswered true (option_map sexp_of o) (answer_in_turn x) dialogue place
answered_on x dialogue place o goes is h =
    subst (λ (p : Option OwnedTree). IsAnswered true (option_map sexp_of p) (answer_in_turn x) dialogue place) is
    (subst (λ b. IsAnswered b (command_in_turn x) (answer_in_turn x) dialogue place) goes h.answered)

-- none is in turn
pub applied_none : (x : Replay) (dialogue : Dialogue) (place : Place) → x.goes_on ≡ true → x.command ≡ None
    → Stands x dialogue place → HasApplied true x x dialogue place
applied_none x dialogue place goes none h = (
  place,
  h.at,
  none,
  none_of tree_of x.answer (answered_on x dialogue place None goes none h),
  subst (λ (o : Option OwnedTree). IsBehind (option_map sexp_of o) (answer_in_turn x) dialogue place place)
      (sym none) refl,
)

same_command : (r : Result Command CommandFlaw) (c d : Command) → r ≡ Ok c → r ≡ Ok d → c ≡ d
same_command r c d h k = cc

-- it was applied
pub applied_one : (x y : Replay) (dialogue : Dialogue) (place : Place) (t : OwnedTree) (c : Command)
    → x.goes_on ≡ true → x.command ≡ Some t → command_of (profile_of x.stack) (sexp_of t) ≡ Ok c
    → y.script ≡ x.script → y.answers ≡ x.answers → y.number ≡ x.number → y.command ≡ None → y.answer ≡ None
    → start_of y.stack ≡ start_of x.stack
    → ((commands : List Numbered) → stacks.StandsFor x.stack commands
    → (flaw_if (profile_of x.stack) (is_effective_with (answer_in_turn x)) commands x.number c ≡ None)
    × stacks.StandsFor y.stack (commands ++ numbered_if (is_effective_with (answer_in_turn x)) x.number c))
    → Stands x dialogue place → HasApplied true x y dialogue place
applied_one x y dialogue place t c goes some read script answers number none unanswered start applied h =
    let d = dialogue in
    let at = h.at in
    let a = answered_on x dialogue place (Some t) goes some h in
    let own : command_of d.start.profile (sexp_of t) ≡ Ok c =
    subst (λ (s : Start). command_of s.profile (sexp_of t) ≡ Ok c) at.start read in
    let same : a.0 ≡ c = same_command (command_of d.start.profile (sexp_of t)) a.0 c a.1 own in
    let count : x.number ≡ length place.pairs + 1 =
    at.number ∙ ap (λ (o : Option OwnedTree). length place.pairs + waiting o) some in
    let done = applied (effective_commands place.pairs) at.in_force in
    let pair = pair_of c (answer_in_turn x) in
    let faultless = subst (λ (s : Start). flaw_if s.profile (is_effective_with (answer_in_turn x))
    (effective_commands place.pairs) (length place.pairs + 1) c ≡ None) at.start
    (subst (λ n. flaw_if (profile_of x.stack) (is_effective_with (answer_in_turn x))
    (effective_commands place.pairs) n c ≡ None) count done.0) in
    let takes = subst (λ (k : Command). taken (is_over d.answers) (need_after d.start place.pairs k)
    (next_of place.rest) ≡ Takes (answer_in_turn x)) same a.3 in
    let first = in_turn x dialogue place t some at in
    let after : Place = record { pairs = place.pairs ++ pair ∷ []; later = at.later; rest = at.rest } in
    let force : stacks.StandsFor y.stack (effective_commands (place.pairs ++ pair ∷ [])) =
    subst (stacks.StandsFor y.stack) (sym (effective_commands-push place.pairs pair))
    (subst (λ n. stacks.StandsFor y.stack (effective_commands place.pairs
    ++ numbered_if (is_effective_with (answer_in_turn x)) n c)) count done.1) in (
      after,
      record {
        start = start ∙ at.start;
        place_is = paired_push d.start d.script d.answers place.pairs (sexp_of t) c (answer_in_turn x) at.later
            place.rest at.rest own a.2 at.answer takes faultless
            (subst (λ ts. ArePaired d.start d.script d.answers place.pairs ts place.rest) first at.place_is);
        in_force = force;
        number = next_number x.number y.number place.pairs pair y.command number count none;
        later = at.later;
        script = subst (λ g. HasGiven g d.script at.later) (sym script) at.script;
        command = ap (λ (o : Option OwnedTree). with_answer (option_map sexp_of o) at.later) (sym none);
        rest = at.rest;
        answers = subst (λ g. HasGiven g d.answers at.rest) (sym answers) at.answers;
        answer = ap (λ (o : Option TakenAnswer). with_answer (option_map tree_of o) at.rest) (sym unanswered);
      },
      none,
      unanswered,
      subst (λ (o : Option OwnedTree). IsBehind (option_map sexp_of o) (answer_in_turn x) dialogue place after)
          (sym some) (c, own, refl),
    )

-- it is refused
pub applied_refused : (x y : Replay) (dialogue : Dialogue) (place : Place) (t : OwnedTree) (c : Command)
    (flaw : CommandFlaw) → x.goes_on ≡ true → x.command ≡ Some t
    → command_of (profile_of x.stack) (sexp_of t) ≡ Ok c
    → y.script ≡ x.script → y.answers ≡ x.answers → y.number ≡ x.number → y.command ≡ x.command
    → y.answer ≡ x.answer → y.goes_on ≡ x.goes_on → start_of y.stack ≡ start_of x.stack
    → ((commands : List Numbered) → stacks.StandsFor x.stack commands
    → flaw_if (profile_of x.stack) (is_effective_with (answer_in_turn x)) commands x.number c ≡ Some flaw)
    → ((commands : List Numbered) → stacks.StandsFor x.stack commands → stacks.StandsFor y.stack commands)
    → Stands x dialogue place → HasApplied false x y dialogue place
applied_refused x y dialogue place t c flaw goes some read script answers number command answer goes_on start refused
    stays h =
    let d = dialogue in
    let at = h.at in
    let a = answered_on x dialogue place (Some t) goes some h in
    let own : command_of d.start.profile (sexp_of t) ≡ Ok c =
    subst (λ (s : Start). command_of s.profile (sexp_of t) ≡ Ok c) at.start read in
    let same : a.0 ≡ c = same_command (command_of d.start.profile (sexp_of t)) a.0 c a.1 own in
    let count : x.number ≡ length place.pairs + 1 =
    at.number ∙ ap (λ (o : Option OwnedTree). length place.pairs + waiting o) some in
    let flawed = subst (λ (s : Start). flaw_if s.profile (is_effective_with (answer_in_turn x))
    (effective_commands place.pairs) (length place.pairs + 1) c ≡ Some flaw) at.start
    (subst (λ n. flaw_if (profile_of x.stack) (is_effective_with (answer_in_turn x))
    (effective_commands place.pairs) n c ≡ Some flaw) count (refused (effective_commands place.pairs) at.in_force)) in
    let takes = subst (λ (k : Command). taken (is_over d.answers) (need_after d.start place.pairs k)
    (next_of place.rest) ≡ Takes (answer_in_turn x)) same a.3 in
    let first = in_turn x dialogue place t some at in (
      record {
        at = record {
          start = start ∙ at.start;
          place_is = at.place_is;
          in_force = stays (effective_commands place.pairs) at.in_force;
          number = number ∙ at.number
              ∙ ap (λ (o : Option OwnedTree). length place.pairs + waiting o) (sym command);
          later = at.later;
          script = subst (λ g. HasGiven g d.script at.later) (sym script) at.script;
          command = at.command
              ∙ ap (λ (o : Option OwnedTree). with_answer (option_map sexp_of o) at.later) (sym command);
          rest = at.rest;
          answers = subst (λ g. HasGiven g d.answers at.rest) (sym answers) at.answers;
          answer = at.answer
              ∙ ap (λ (o : Option TakenAnswer). with_answer (option_map tree_of o) at.rest) (sym answer);
        };
        answered = subst (λ b. IsAnswered b (command_in_turn y) (answer_in_turn y) dialogue place) (sym goes_on)
            (subst (λ (o : Option OwnedTree). IsAnswered x.goes_on (option_map sexp_of o) (answer_in_turn y) dialogue
            place) (sym command)
            (subst (λ (o : Option TakenAnswer). IsAnswered x.goes_on (command_in_turn x) (option_map tree_of o) dialogue
            place) (sym answer) h.answered));
      },
      (
        Some (lines.CommandFault (length place.pairs + 1) flaw),
        turn_taken dialogue place (sexp_of t) at.later c (Takes (answer_in_turn x)) first a.2 own takes
            ∙ ap (turn_of_flaw (length place.pairs + 1)) flawed,
      ),
      ap is_some command ∙ ap is_some some,
    )

-- a tree that goes on is a command
pub goes_on_read : (x : Replay) (dialogue : Dialogue) (place : Place) (t : OwnedTree) → x.goes_on ≡ true
    → x.command ≡ Some t → Stands x dialogue place
    → (c : Command) × (command_of (profile_of x.stack) (sexp_of t) ≡ Ok c)
goes_on_read x dialogue place t goes some h =
    let a = answered_on x dialogue place (Some t) goes some h in (
      a.0,
      subst (λ (s : Start). command_of s.profile (sexp_of t) ≡ Ok a.0) (sym h.at.start) a.1,
    )

-- ---- the next command

left_only : (o : Option Sexp) (left : Sexps) → is_some o ≡ true → next_of (with_answer o left) ≡ o
left_only None left h = absurd (cc)
left_only (Some t) left h = refl

some_of : {A B : Type 0} (f : A → B) (o : Option A) → is_some (option_map f o) ≡ is_some o
some_of f None = refl
some_of f (Some x) = refl

-- the dialogue has ended already
pub stays_ended : (x : Replay) (dialogue : Dialogue) (place : Place) → x.goes_on ≡ false → Stands x dialogue place
    → HasAdvanced false x x dialogue place
stays_ended x dialogue place ended h =
    let a = subst (λ b. IsAnswered b (command_in_turn x) (answer_in_turn x) dialogue place) ended h.answered in
    record { after = place; stands = h; command = a.1; step = (a.2, inl refl) }

-- the command in turn is refused
pub stays_refused : (x y : Replay) (dialogue : Dialogue) (place : Place) → HasApplied false x y dialogue place
    → HasAdvanced false x y dialogue place
stays_refused x y dialogue place h = record {
  after = place;
  stands = h.0;
  command = sym (ap next_of h.0.at.command
      ∙ left_only (command_in_turn y) h.0.at.later (some_of sexp_of y.command ∙ h.2));
  step = (h.1, inl refl);
}

-- no tree comes: none is left
pub none_left : (ahead : Ahead) (given : GivenText) (whole : TextSoFar) (rest : Sexps)
    → (ahead ≡ comes.Tree → ⊥) → IsLooked ahead given whole rest → rest ≡ Nil
none_left comes.Tree given whole rest never h = absurd (never refl)
none_left comes.Wait given whole rest never h =
    let g = h.given_is in
    g.rest_is ∙ ap (λ ts. append ts g.grown.later) h.ahead_is.0 ∙ (g.grown.over (h.over h.ahead_is.0)).0
none_left (comes.End fault) given whole rest never h =
    let g = h.given_is in
    g.rest_is ∙ ap (λ ts. append ts g.grown.later) h.ahead_is.0 ∙ (g.grown.over h.ahead_is.2).0

-- the script was looked at behind what was applied
pub looked_behind : (y z : Replay) (dialogue : Dialogue) (after : Place) → z.stack ≡ y.stack
    → z.answers ≡ y.answers → z.number ≡ y.number → z.command ≡ y.command → z.answer ≡ y.answer
    → ((whole : TextSoFar) (rest : Sexps) → HasGiven y.script whole rest → HasGiven z.script whole rest)
    → IsAt y dialogue after → IsAt z dialogue after
looked_behind y z dialogue after stack answers number command answer goes at = record {
  start = ap start_of stack ∙ at.start;
  place_is = at.place_is;
  in_force = subst (λ s. stacks.StandsFor s (effective_commands after.pairs)) (sym stack) at.in_force;
  number = number ∙ at.number ∙ ap (λ (o : Option OwnedTree). length after.pairs + waiting o) (sym command);
  later = at.later;
  script = goes dialogue.script at.later at.script;
  command = at.command ∙ ap (λ (o : Option OwnedTree). with_answer (option_map sexp_of o) at.later) (sym command);
  rest = at.rest;
  answers = subst (λ g. HasGiven g dialogue.answers at.rest) (sym answers) at.answers;
  answer = at.answer ∙ ap (λ (o : Option TakenAnswer). with_answer (option_map tree_of o) at.rest) (sym answer);
}

nothing_later : (x : Replay) (dialogue : Dialogue) (place : Place) → x.command ≡ None → (h : IsAt x dialogue place)
    → place.later ≡ h.later
nothing_later x dialogue place none h =
    h.command ∙ ap (λ (o : Option OwnedTree). with_answer (option_map sexp_of o) h.later) none

-- the script has ended
pub ends_there : (x y z : Replay) (ahead : Ahead) (dialogue : Dialogue) (place : Place)
    → (ahead ≡ comes.Tree → ⊥) → z.goes_on ≡ false → z.stack ≡ y.stack → z.answers ≡ y.answers
    → z.number ≡ y.number → z.command ≡ y.command → z.answer ≡ y.answer
    → ((whole : TextSoFar) (rest : Sexps) → HasGiven y.script whole rest → IsLooked ahead z.script whole rest)
    → HasApplied true x y dialogue place → HasAdvanced false x z dialogue place
ends_there x y z ahead dialogue place never ended stack answers number command answer looks h =
    let after = h.0 in
    let at = h.1 in
    let there = looked_behind y z dialogue after stack answers number command answer
    (λ whole rest g. (looks whole rest g).given_is) at in
    let none = nothing_later y dialogue after h.2 at
    ∙ none_left ahead z.script dialogue.script at.later never (looks dialogue.script at.later at.script) in
    let end' = ended_behind dialogue after at.script.read.told_so at.answers.read.told_so none in
    let gone : command_in_turn z ≡ None = ap (option_map sexp_of) (command ∙ h.2) in
    let empty : command_in_turn z ≡ next_of after.later = gone ∙ sym (ap next_of none) in
    record {
      after = after;
      stands = record {
        at = there;
        answered = subst (λ b. IsAnswered b (command_in_turn z) (answer_in_turn z) dialogue after) (sym ended)
            (ap (option_map tree_of) (answer ∙ h.3), empty, end');
      };
      command = empty;
      step = (end', inr (h.4, none));
    }

-- ---- there is room for the number of the next command

fed_length : (n : ℕ) (xs : List ℕ) → length (take n xs) ≤ n
fed_length zero xs = omega arith
fed_length (suc n) [] = omega arith
fed_length (suc n) (x ∷ xs) = omega (arith, fed_length n xs)

tree_left : (given : GivenText) (whole : TextSoFar) (rest : Sexps) → (h : IsLooked comes.Tree given whole rest)
    → 1 ≤ count h.given_is.left
tree_left given whole rest h = omega (arith, ap count h.ahead_is.3)

pub room_behind : TreesAreFew → (y : Replay) (given : GivenText) (dialogue : Dialogue) (after : Place)
    → y.command ≡ None → (h : IsAt y dialogue after) → IsLooked comes.Tree given dialogue.script h.later
    → y.number + 1 ≤ given.fed
room_behind few y given dialogue after none at looked =
    let g = looked.given_is in
    omega (
      arith,
      at.number,
      none_waits y.command none,
      commands_count dialogue.start.profile after.pairs dialogue.script.trees after.later at.place_is.pairing.commands,
      ap count (nothing_later y dialogue after none at ∙ g.rest_is),
      count-append g.left g.grown.later,
      ap count g.grown.trees,
      count-append g.so_far.trees g.grown.later,
      few (depth_limit given.queue.reader) g.so_far.told (take given.fed given.text.now) g.so_far.trees
          g.so_far.fault g.queue.reads,
      fed_length given.fed given.text.now,
      tree_left given dialogue.script at.later looked,
    )

-- ---- the next tree is in turn

first_left : (next : Option OwnedTree) (t : OwnedTree) (so_far : TextSoFar) (left : Sexps)
    → IsAhead comes.Tree next so_far left → next ≡ Some t → (later : Sexps) × (left ≡ Cons (sexp_of t) later)
first_left next t so_far left h is =
    let same : h.0 ≡ t = (let e : ◌≡◌ {A = Option OwnedTree} (Some h.0) (Some t) = sym h.2 ∙ is in cc) in
    (h.1, h.3 ∙ ap (λ u. Cons (sexp_of u) h.1) same)

-- the tree that was taken is in turn
pub taken_in : (y w : Replay) (given : GivenText) (o : Option OwnedTree) (dialogue : Dialogue) (after : Place)
    → w.stack ≡ y.stack → w.answers ≡ y.answers → w.number ≡ y.number + 1 → w.command ≡ o → w.answer ≡ y.answer
    → y.command ≡ None
    → MatchOption o (given.queue.next ≡ None) (λ tree. (given.queue.next ≡ Some tree)
    × ((whole : TextSoFar) (later : Sexps) → HasGiven given whole (Cons (sexp_of tree) later)
    → HasGiven w.script whole later))
    → (h : IsAt y dialogue after) → IsLooked comes.Tree given dialogue.script h.later
    → IsAt w dialogue after × (is_some w.command ≡ true)
taken_in y w given None dialogue after stack answers number is answer none taken' at looked =
    absurd (let e = sym looked.ahead_is.2 ∙ taken' in cc)
taken_in y w given (Some t) dialogue after stack answers number is answer none taken' at looked =
    let g = looked.given_is in
    let first = first_left given.queue.next t g.so_far g.left looked.ahead_is taken'.0 in
    let later = append first.0 g.grown.later in
    let all : at.later ≡ Cons (sexp_of t) later = g.rest_is ∙ ap (λ ts. append ts g.grown.later) first.1 in (
      record {
        start = ap start_of stack ∙ at.start;
        place_is = at.place_is;
        in_force = subst (λ s. stacks.StandsFor s (effective_commands after.pairs)) (sym stack) at.in_force;
        number = omega (arith, number, at.number, none_waits y.command none, some_waits w.command t is);
        later = later;
        script = taken'.1 dialogue.script later (subst (HasGiven given dialogue.script) all g);
        command = nothing_later y dialogue after none at ∙ all
            ∙ ap (λ (o : Option OwnedTree). with_answer (option_map sexp_of o) later) (sym is);
        rest = at.rest;
        answers = subst (λ g. HasGiven g dialogue.answers at.rest) (sym answers) at.answers;
        answer = at.answer ∙ ap (λ (o : Option TakenAnswer). with_answer (option_map tree_of o) at.rest) (sym answer);
      },
      ap is_some is,
    )

at_alike : (x y : Replay) (dialogue : Dialogue) (place : Place) → y.stack ≡ x.stack → y.script ≡ x.script
    → y.answers ≡ x.answers → y.number ≡ x.number → y.command ≡ x.command → y.answer ≡ x.answer
    → IsAt x dialogue place → IsAt y dialogue place
at_alike x y dialogue place stack script answers number command answer at =
    looked_behind x y dialogue place stack answers number command answer
    (λ whole rest g. subst (λ s. HasGiven s whole rest) (sym script) g) at

-- the next command is in turn, with its answer
pub went_on : (x y w z v : Replay) (goes_on : Bool) (dialogue : Dialogue) (place : Place)
    → ((after : Place) → IsAt w dialogue after → is_some w.command ≡ true → w.answer ≡ None
    → HasFound goes_on w z dialogue after)
    → ((after : Place) → IsAt y dialogue after → IsAt w dialogue after × (is_some w.command ≡ true))
    → w.answer ≡ y.answer → HasApplied true x y dialogue place
    → v.stack ≡ z.stack → v.script ≡ z.script → v.answers ≡ z.answers → v.number ≡ z.number
    → v.command ≡ z.command → v.answer ≡ z.answer → v.goes_on ≡ goes_on → HasAdvanced true x v dialogue place
went_on x y w z v goes_on dialogue place finds taken' same h stack script answers number command answer ends =
    let after = h.0 in
    let here = taken' after h.1 in
    let f = finds after here.0 here.1 (same ∙ h.3) in
    let at = at_alike z v dialogue after stack script answers number command answer f.at in
    let some : is_some (command_in_turn v) ≡ true =
    some_of sexp_of v.command ∙ ap is_some (command ∙ f.command) ∙ here.1 in
    record {
      after = after;
      stands = record {
        at = at;
        answered = subst (λ b. IsAnswered b (command_in_turn v) (answer_in_turn v) dialogue after) (sym ends)
            (subst (λ (o : Option OwnedTree). IsAnswered goes_on (option_map sexp_of o) (answer_in_turn v) dialogue
            after) (sym command)
            (subst (λ (o : Option TakenAnswer). IsAnswered goes_on (command_in_turn z) (option_map tree_of o) dialogue
            after) (sym answer) f.answered));
      };
      command = sym (ap next_of at.command ∙ left_only (command_in_turn v) at.later some);
      step = (h.4, some);
    }

-- ---- what a contract tells of what is in force alone

pub tree_in_turn : (x : Replay) → is_some x.command ≡ true → (t : Sexp) × (command_in_turn x ≡ Some t)
tree_in_turn x some = by x.command refl
  where
    by : (o : Option OwnedTree) → x.command ≡ o → (t : Sexp) × (command_in_turn x ≡ Some t)
    by None is = absurd (let e = sym some ∙ ap is_some is in cc)
    by (Some t) is = (sexp_of t, ap (option_map sexp_of) is)

pub never_in_turn : {P : Type 0} (x : Replay) (t : Sexp) → x.command ≡ None → command_in_turn x ≡ Some t → P
never_in_turn x t none is = absurd (let e = sym (ap (option_map sexp_of) none) ∙ is in cc)

pub grown_none : (x : Replay) (commands : List Numbered) → x.command ≡ None
    → IsGrown (profile_of x.stack) (command_in_turn x) (answer_in_turn x) x.number commands commands
grown_none x commands none = subst (λ (o : Option OwnedTree). IsGrown (profile_of x.stack) (option_map sexp_of o)
    (answer_in_turn x) x.number commands commands) (sym none) refl

-- what was applied where it took effect by its answer
abbrev pub AppliesIf : Replay → Stack → Command → Bool → Type 0
AppliesIf x new c effective = (commands : List Numbered) → stacks.StandsFor x.stack commands
    → (flaw_if (profile_of x.stack) effective commands x.number c ≡ None)
    × stacks.StandsFor new (commands ++ numbered_if effective x.number c)

pub applies_by : (x : Replay) (new : Stack) (c : Command) → AppliesIf x new c x.effective
    → AppliesIf x new c (is_effective_with (answer_in_turn x))
applies_by x new c h = subst (AppliesIf x new c) x.effective_so h

pub grown_one : (x : Replay) (new : Stack) (t : OwnedTree) (c : Command) → x.command ≡ Some t
    → command_of (profile_of x.stack) (sexp_of t) ≡ Ok c → AppliesIf x new c (is_effective_with (answer_in_turn x))
    → (commands : List Numbered) → stacks.StandsFor x.stack commands
    → (after : List Numbered) × stacks.StandsFor new after
    × IsGrown (profile_of x.stack) (command_in_turn x) (answer_in_turn x) x.number commands after
grown_one x new t c some read applied commands stands =
    let after = commands ++ numbered_if (is_effective_with (answer_in_turn x)) x.number c in (
      after,
      (applied commands stands).1,
      subst (λ (o : Option OwnedTree). IsGrown (profile_of x.stack) (option_map sexp_of o)
          (answer_in_turn x) x.number commands after) (sym some) (c, read, refl),
    )

-- a refusal tells the flaw of the command
tells_flaw : (expected : Option CommandFlaw) (fault : CommandFault) (flaw : CommandFlaw)
    → flaw_of_command_fault fault ≡ Some flaw → TellsCommand expected fault → expected ≡ Some flaw
tells_flaw expected fault flaw told (inl memory) =
    absurd (let none : None ≡ Some flaw = sym (ap flaw_of_command_fault memory) ∙ told in cc)
tells_flaw expected fault flaw told (inr h) = h.1 ∙ told

pub refused_so : (x : Replay) (c : Command) (fault : CommandFault) (flaw : CommandFlaw)
    → flaw_of_command_fault fault ≡ Some flaw
    → ((commands : List Numbered) → stacks.StandsFor x.stack commands
    → TellsCommand (flaw_if (profile_of x.stack) x.effective commands x.number c) fault)
    → (commands : List Numbered) → stacks.StandsFor x.stack commands
    → flaw_if (profile_of x.stack) (is_effective_with (answer_in_turn x)) commands x.number c ≡ Some flaw
refused_so x c fault flaw told h commands stands =
    subst (λ b. flaw_if (profile_of x.stack) b commands x.number c ≡ Some flaw) x.effective_so
    (tells_flaw (flaw_if (profile_of x.stack) x.effective commands x.number c) fault flaw told (h commands stands))
