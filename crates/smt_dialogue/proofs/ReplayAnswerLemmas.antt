-- The answer of the command in turn of a replay, and the next answer.
use Rattle.std.proofs.Common.{◌≡◌, ◌+◌, Bool, true, false, ◌||◌, length}
use Rattle.std.proofs.Common.{Option, Some, None, is_some, Ok, Err, option_map}
use Rattle.std.proofs.Common.{refl, ap, sym, ◌∙◌, subst}
use Rattle.smt_trees.specs.Sexp.{Sexp, Sexps, Cons, append}
use Rattle.smt_trees.specs.Owned.{sexp_of}
use Rattle.smt_trees.specs.declared.owned.OwnedTree.{OwnedTree}
use Rattle.smt_faults.specs.declared.text_flaw.TextFlaw.{TextFlaw}
use Rattle.smt_faults.specs.declared.command_flaw.CommandFlaw.{CommandFlaw}
use Rattle.smt_script.specs.Command.{Command, command_of}
use Rattle.smt_script.specs.StackView as stacks
use Rattle.smt_script.specs.StackView.{profile_of, start_of}
use Rattle.smt_script.specs.declared.stack.Start.{Start}
use Rattle.smt_dialogue.proofs.GivenLemmas.{never_waits}
use Rattle.smt_dialogue.specs.Answers.{Takes, need_of, taken}
use Rattle.smt_dialogue.specs.FirstFault.{TextSoFar, is_over}
use Rattle.smt_dialogue.specs.InForce.{has_exited_after, need_after, print_success_after}
use Rattle.smt_dialogue.specs.Pairs.{effective_commands, next_of, with_answer}
use Rattle.smt_dialogue.specs.Replays.{Dialogue, HasEnded, IsAnswered, IsAt}
use Rattle.smt_dialogue.specs.Replays.{IsNextAnswer, Place, Stands, answer_in_turn, command_in_turn}
use Rattle.smt_dialogue.specs.Internal.AnswerView.{tree_of}
use Rattle.smt_dialogue.specs.Internal.GivenView.{HasGiven, IsLooked, IsTakenOf, taken_tree}
use Rattle.smt_dialogue.specs.Internal.NextAnswerView.{answering_view}
use Rattle.smt_dialogue.specs.Internal.ReplaySteps.{HasFound, IsNeed}
use Rattle.smt_dialogue.specs.Internal.ReplayView.{waiting}
use Rattle.smt_dialogue.specs.declared.answer.TakenAnswer.{TakenAnswer}
use Rattle.smt_dialogue.specs.declared.given_text.GivenText.{GivenText}
use Rattle.smt_dialogue.specs.declared.need.Need.{Need}
use Rattle.smt_dialogue.specs.declared.next_answer.NextAnswer.{NextAnswer}
use Rattle.smt_dialogue.specs.declared.next_answer.NextAnswer.TheVariants as found
use Rattle.smt_dialogue.specs.declared.replay.Replay.{Replay}
use Rattle.smt_dialogue.specs.declared.tree_queue.Ahead.{Ahead}
use Rattle.smt_dialogue.specs.declared.tree_queue.Ahead.TheVariants as comes
use Rattle.smt_dialogue.proofs.ReplayLemmas.{ended_exit, ended_unread, ends_untaken, none_left, turn_taken}

-- ---- the answer of the command in turn

nothing_taken : (x : Replay) (dialogue : Dialogue) (place : Place) → x.answer ≡ None → (h : IsAt x dialogue place)
    → place.rest ≡ h.rest
nothing_taken x dialogue place none h =
    h.answer ∙ ap (λ (o : Option TakenAnswer). with_answer (option_map tree_of o) h.rest) none

tree_first : (x : Replay) (dialogue : Dialogue) (place : Place) (t : Sexp) → command_in_turn x ≡ Some t
    → (h : IsAt x dialogue place) → place.later ≡ Cons t h.later
tree_first x dialogue place t is h = h.command ∙ ap (λ o. with_answer o h.later) is

-- the command is refused before it takes an answer
pub found_none : (x : Replay) (dialogue : Dialogue) (place : Place) (t : Sexp) → command_in_turn x ≡ Some t
    → x.answer ≡ None → HasEnded dialogue place → IsAt x dialogue place → HasFound false x x dialogue place
found_none x dialogue place t is none ended at = record {
  at = at;
  command = refl;
  answered = (
    ap (option_map tree_of) none,
    is ∙ sym (ap next_of (tree_first x dialogue place t is at)),
    ended,
  );
}

-- the answers were looked at, and these are left
pub answers_at : (x y : Replay) (dialogue : Dialogue) (place : Place) (o : Option TakenAnswer) (left : Sexps)
    → y.stack ≡ x.stack → y.script ≡ x.script → y.number ≡ x.number → y.command ≡ x.command → y.answer ≡ o
    → HasGiven y.answers dialogue.answers left → place.rest ≡ with_answer (option_map tree_of o) left
    → IsAt x dialogue place → IsAt y dialogue place
answers_at x y dialogue place o left stack script number command answer given rest at = record {
  start = ap start_of stack ∙ at.start;
  place_is = at.place_is;
  in_force = subst (λ s. stacks.StandsFor s (effective_commands place.pairs)) (sym stack) at.in_force;
  number = number ∙ at.number ∙ ap (λ (p : Option OwnedTree). length place.pairs + waiting p) (sym command);
  later = at.later;
  script = subst (λ g. HasGiven g dialogue.script at.later) (sym script) at.script;
  command = at.command ∙ ap (λ (p : Option OwnedTree). with_answer (option_map sexp_of p) at.later) (sym command);
  rest = left;
  answers = given;
  answer = rest ∙ ap (λ (p : Option TakenAnswer). with_answer (option_map tree_of p) left) (sym answer);
}

takes_so : (dialogue : Dialogue) (place : Place) (c : Command) (need : Need) (f : NextAnswer) (rest : Sexps)
    → need ≡ need_after dialogue.start place.pairs c → place.rest ≡ rest
    → answering_view f ≡ taken (is_over dialogue.answers) need (next_of rest)
    → taken (is_over dialogue.answers) (need_after dialogue.start place.pairs c) (next_of place.rest)
    ≡ answering_view f
takes_so dialogue place c need f rest is same h =
    ap (λ r. taken (is_over dialogue.answers) (need_after dialogue.start place.pairs c) (next_of r)) same
    ∙ ap (λ n. taken (is_over dialogue.answers) n (next_of rest)) (sym is) ∙ sym h

-- the command takes an answer, or none
pub found_one : (x y : Replay) (dialogue : Dialogue) (place : Place) (t : Sexp) (need : Need)
    (o : Option TakenAnswer) → command_in_turn x ≡ Some t → x.answer ≡ None → y.stack ≡ x.stack
    → y.script ≡ x.script → y.number ≡ x.number → y.command ≡ x.command → y.answer ≡ o
    → IsNeed (Some need) t dialogue place
    → ((whole : TextSoFar) (rest : Sexps) → HasGiven x.answers whole rest
    → IsTakenOf (found.Takes o) need whole rest y.answers)
    → IsAt x dialogue place → HasFound true x y dialogue place
found_one x y dialogue place t need o is none stack script number command answer needs takes at =
    let same = nothing_taken x dialogue place none at in
    let k = takes dialogue.answers at.rest at.answers in
    record {
      at = answers_at x y dialogue place o k.left stack script number command answer k.given_is (same ∙ k.left_is) at;
      command = command;
      answered = subst (λ p. IsAnswered true p (answer_in_turn y) dialogue place)
          (sym (ap (option_map sexp_of) command ∙ is)) (
            needs.0,
            needs.1,
            needs.2,
            takes_so dialogue place needs.0 need (found.Takes o) at.rest needs.3 same k.taken_so
                ∙ ap (λ (p : Option TakenAnswer). Takes (option_map tree_of p)) (sym answer),
          );
    }

untaken : (f : NextAnswer) → ((o : Option TakenAnswer) → f ≡ found.Takes o → ⊥) → (a : Option Sexp)
    → answering_view f ≡ Takes a → ⊥
untaken (found.Takes o) never a h = never o refl
untaken found.Waits never a h = absurd (cc)
untaken (found.Missing fault) never a h = absurd (cc)
untaken found.Unexpected never a h = absurd (cc)

untaken_tree : (f : NextAnswer) → ((o : Option TakenAnswer) → f ≡ found.Takes o → ⊥) → taken_tree f ≡ None
untaken_tree (found.Takes o) never = absurd (never o refl)
untaken_tree found.Waits never = refl
untaken_tree (found.Missing fault) never = refl
untaken_tree found.Unexpected never = refl

told_over : (told : Bool) (fault : Option TextFlaw) → told ≡ true → told || is_some fault ≡ true
told_over true fault h = refl
told_over false fault h = absurd (cc)

-- its answer is missing or unfit
pub found_unfit : (x y : Replay) (dialogue : Dialogue) (place : Place) (t : Sexp) (need : Need) (f : NextAnswer)
    → command_in_turn x ≡ Some t → x.answer ≡ None → y.stack ≡ x.stack
    → y.script ≡ x.script → y.number ≡ x.number → y.command ≡ x.command → y.answer ≡ x.answer
    → IsNeed (Some need) t dialogue place → ((o : Option TakenAnswer) → f ≡ found.Takes o → ⊥)
    → ((whole : TextSoFar) (rest : Sexps) → HasGiven x.answers whole rest → IsTakenOf f need whole rest y.answers)
    → IsAt x dialogue place → HasFound false x y dialogue place
found_unfit x y dialogue place t need f is none stack script number command answer needs never takes at =
    let same = nothing_taken x dialogue place none at in
    let first = tree_first x dialogue place t is at in
    let k = takes dialogue.answers at.rest at.answers in
    let so = takes_so dialogue place needs.0 need f at.rest needs.3 same k.taken_so in
    let over = told_over dialogue.answers.told dialogue.answers.fault at.answers.read.told_so in
    let fault = ends_untaken dialogue.start.profile place.pairs needs.0 dialogue.answers.fault (answering_view f)
    (untaken f never) (λ e. never_waits (is_over dialogue.answers)
    (need_after dialogue.start place.pairs needs.0) place.rest (λ _. over) (so ∙ e)) in
    record {
      at = answers_at x y dialogue place None k.left stack script number command (answer ∙ none) k.given_is
          (same ∙ k.left_is ∙ ap (λ p. with_answer p k.left) (untaken_tree f never)) at;
      command = command;
      answered = (
        ap (option_map tree_of) (answer ∙ none),
        ap (option_map sexp_of) command ∙ is ∙ sym (ap next_of first),
        (
          fault.0,
          turn_taken dialogue place t at.later needs.0 (answering_view f) first needs.2 needs.1 so ∙ fault.1,
        ),
      );
    }

-- ---- what the tree in turn needs

pub needs_none : (x : Replay) (dialogue : Dialogue) (place : Place) (t : Sexp) → has_exited_after place.pairs ≡ true
    → IsAt x dialogue place → command_in_turn x ≡ Some t → IsNeed None t dialogue place
needs_none x dialogue place t exited at is =
    ended_exit dialogue place t at.later (tree_first x dialogue place t is at) exited

some_same : {a b : Sexp} → ◌≡◌ {A = Option Sexp} (Some a) (Some b) → a ≡ b
some_same h = cc

pub needs_unread : (x : Replay) (dialogue : Dialogue) (place : Place) (t u : Sexp) (flaw : CommandFlaw)
    → has_exited_after place.pairs ≡ false → command_in_turn x ≡ Some u
    → command_of (profile_of x.stack) u ≡ Err flaw → IsAt x dialogue place → command_in_turn x ≡ Some t
    → IsNeed None t dialogue place
needs_unread x dialogue place t u flaw goes_on here read at is =
    let same : u ≡ t = some_same (sym here ∙ is) in
    ended_unread dialogue place t at.later flaw (tree_first x dialogue place t is at) goes_on
    (subst (λ (s : Start). command_of s.profile t ≡ Err flaw) at.start
    (subst (λ v. command_of (profile_of x.stack) v ≡ Err flaw) same read))

pub needs_one : (x : Replay) (dialogue : Dialogue) (place : Place) (t u : Sexp) (c : Command) (on : Bool)
    (need : Need) → has_exited_after place.pairs ≡ false → command_in_turn x ≡ Some u
    → command_of (profile_of x.stack) u ≡ Ok c → need ≡ need_of (profile_of x.stack) on c
    → on ≡ print_success_after (start_of x.stack).print_success place.pairs
    → IsAt x dialogue place → command_in_turn x ≡ Some t → IsNeed (Some need) t dialogue place
needs_one x dialogue place t u c on need goes_on here read is success at now =
    let same : u ≡ t = some_same (sym here ∙ now) in (
      c,
      subst (λ (s : Start). command_of s.profile t ≡ Ok c) at.start
          (subst (λ v. command_of (profile_of x.stack) v ≡ Ok c) same read),
      goes_on,
      is ∙ ap (λ b. need_of (profile_of x.stack) b c) success
          ∙ ap (λ (s : Start). need_after s place.pairs c) at.start,
    )

-- ---- the next answer

stands_on : (x y : Replay) (dialogue : Dialogue) (place : Place) → y.stack ≡ x.stack → y.script ≡ x.script
    → y.number ≡ x.number → y.command ≡ x.command → y.answer ≡ x.answer → y.goes_on ≡ x.goes_on
    → (h : Stands x dialogue place) → HasGiven y.answers dialogue.answers h.at.rest → Stands y dialogue place
stands_on x y dialogue place stack script number command answer goes h given = record {
  at = answers_at x y dialogue place x.answer h.at.rest stack script number command answer given h.at.answer h.at;
  answered = subst (λ b. IsAnswered b (command_in_turn y) (answer_in_turn y) dialogue place) (sym goes)
      (subst (λ (o : Option OwnedTree). IsAnswered x.goes_on (option_map sexp_of o) (answer_in_turn y) dialogue
      place) (sym command)
      (subst (λ (o : Option TakenAnswer). IsAnswered x.goes_on (command_in_turn x) (option_map tree_of o) dialogue
      place) (sym answer) h.answered));
}

some_left : (ahead : Ahead) (given : GivenText) (whole : TextSoFar) (rest : Sexps) → ahead ≡ comes.Tree
    → IsLooked ahead given whole rest → is_some (next_of rest) ≡ true
some_left comes.Tree given whole rest is h =
    ap (λ r. is_some (next_of r)) h.given_is.rest_is
    ∙ ap (λ l. is_some (next_of (append l h.given_is.grown.later))) h.ahead_is.3
some_left comes.Wait given whole rest is h = absurd (cc)
some_left (comes.End fault) given whole rest is h = absurd (cc)

-- the answers were looked at: one is left
pub next_is : (x y : Replay) (ahead : Ahead) (dialogue : Dialogue) (place : Place) → ahead ≡ comes.Tree
    → y.stack ≡ x.stack → y.script ≡ x.script → y.number ≡ x.number → y.command ≡ x.command
    → y.answer ≡ x.answer → y.goes_on ≡ x.goes_on
    → ((whole : TextSoFar) (rest : Sexps) → HasGiven x.answers whole rest → IsLooked ahead y.answers whole rest)
    → Stands x dialogue place → Stands y dialogue place × IsNextAnswer true (answer_in_turn y) place
next_is x y ahead dialogue place is stack script number command answer goes looks h =
    let looked = looks dialogue.answers h.at.rest h.at.answers in (
      stands_on x y dialogue place stack script number command answer goes h looked.given_is,
      (
        h.at.rest,
        h.at.answer ∙ ap (λ (o : Option TakenAnswer). with_answer (option_map tree_of o) h.at.rest) (sym answer),
        sym (some_left ahead y.answers dialogue.answers h.at.rest is looked),
      ),
    )

-- or none is
pub next_none : (x y : Replay) (ahead : Ahead) (dialogue : Dialogue) (place : Place)
    → (ahead ≡ comes.Tree → ⊥) → y.stack ≡ x.stack → y.script ≡ x.script → y.number ≡ x.number
    → y.command ≡ x.command → y.answer ≡ x.answer → y.goes_on ≡ x.goes_on
    → ((whole : TextSoFar) (rest : Sexps) → HasGiven x.answers whole rest → IsLooked ahead y.answers whole rest)
    → Stands x dialogue place → Stands y dialogue place × IsNextAnswer false (answer_in_turn y) place
next_none x y ahead dialogue place never stack script number command answer goes looks h =
    let looked = looks dialogue.answers h.at.rest h.at.answers in (
      stands_on x y dialogue place stack script number command answer goes h looked.given_is,
      (
        h.at.rest,
        h.at.answer ∙ ap (λ (o : Option TakenAnswer). with_answer (option_map tree_of o) h.at.rest) (sym answer),
        sym (ap (λ r. is_some (next_of r)) (none_left ahead y.answers dialogue.answers h.at.rest never looked)),
      ),
    )
