use Rattle.std.proofs.Common.{ap, subst, sym, ◌∙◌, ◌+◌}
use Rattle.smt_script.specs.Command.{asks_check}
use Rattle.smt_script.specs.CommandView.{command_view}
use Rattle.smt_script.specs.StackView.{profile_of, start_of}
use Rattle.smt_dialogue.proofs.TurnLemmas.{left_kept, taken_accepted, taken_missing, taken_refused, taken_unfit, taken_waits}
use Rattle.smt_dialogue.specs.Answers.{need_of_kind}
use Rattle.smt_dialogue.specs.Internal.NextAnswerView.{IsKnown, IsTaken}
use Rattle.smt_dialogue.specs.Internal.AcceptedState.{state_behind}
use Rattle.smt_dialogue.specs.Pairs.{effective_commands}
use Rattle.smt_dialogue.specs.declared.next_answer.NextAnswer.{NextAnswer}
use Rattle.smt_dialogue.proofs.turn.take_up.Goals as goal

pub accept-requires-clause-known : goal.accept-requires-clause-known
accept-requires-clause-known c = subst IsKnown c.in-Takes.is c.in_ok-answer.ensures.known

pub returns-in-Ok-clause-turn : goal.returns-in-Ok-clause-turn
returns-in-Ok-clause-turn c = λ bytes text rest taken early pairs h stands check.
    let dialogue = c.args.dialogue.now in
    let done = c.in-Ok.ensures.accepted taken early pairs stands check in
    left_kept (start_of dialogue.stack) pairs (command_view c.args.command.now) text rest bytes
    c.take_answer.new.answers c.give_back.new.answers (state_behind taken c.accept.new.self) c.give_back.ensures.queue
    (taken_accepted (start_of dialogue.stack) c.print_success.result pairs (command_view c.args.command.now)
    c.in-Takes.answer c.need_of-need.result text rest bytes c.take_answer.new.answers
    (state_behind taken c.accept.new.self)
    (c.need_of-need.ensures
    ∙ ap (λ p. need_of_kind p c.print_success.result c.kind-kind.result) c.profile.ensures
    ∙ ap (need_of_kind (profile_of dialogue.stack) c.print_success.result) c.kind-kind.ensures)
    (c.print_success.ensures (effective_commands pairs) stands.stack)
    (subst (λ (a : NextAnswer). IsTaken a c.need_of-need.result text rest bytes c.take_answer.new.answers) c.in-Takes.is
    (c.in_ok-answer.ensures.taken bytes text rest h)) done.0 done.1)

pub returns-in-Some-clause-turn : goal.returns-in-Some-clause-turn
returns-in-Some-clause-turn c = λ bytes text rest taken early pairs h stands check.
    let dialogue = c.args.dialogue.now in
    let refused = c.in-Err.ensures.refused c.in-Some.flaw (sym c.in-Some.ensures) taken early pairs stands in
    taken_refused early (start_of dialogue.stack) c.print_success.result pairs (command_view c.args.command.now)
    c.in-Takes.answer c.need_of-need.result text rest bytes c.take_answer.new.answers
    (state_behind taken c.accept.new.self) (dialogue.commands + 1) c.in-Some.flaw c.refused.result
    (c.need_of-need.ensures
    ∙ ap (λ p. need_of_kind p c.print_success.result c.kind-kind.result) c.profile.ensures
    ∙ ap (need_of_kind (profile_of dialogue.stack) c.print_success.result) c.kind-kind.ensures)
    (c.print_success.ensures (effective_commands pairs) stands.stack)
    (ap (λ n. n + 1) stands.commands) c.refused.ensures
    (subst (λ (a : NextAnswer). IsTaken a c.need_of-need.result text rest bytes c.take_answer.new.answers) c.in-Takes.is
    (c.in_ok-answer.ensures.taken bytes text rest h)) refused.0 refused.1

pub returns-in-Waits-clause-turn : goal.returns-in-Waits-clause-turn
returns-in-Waits-clause-turn c = λ bytes text rest taken early pairs h stands check.
    let dialogue = c.args.dialogue.now in
    taken_waits early (start_of dialogue.stack) c.print_success.result pairs
    (command_view c.args.command.now) c.need_of-need.result text rest bytes c.take_answer.new.answers
    (state_behind taken dialogue) c.is_check.result
    (c.need_of-need.ensures
    ∙ ap (λ p. need_of_kind p c.print_success.result c.kind-kind.result) c.profile.ensures
    ∙ ap (need_of_kind (profile_of dialogue.stack) c.print_success.result) c.kind-kind.ensures)
    (c.print_success.ensures (effective_commands pairs) stands.stack)
    (c.is_check.ensures ∙ ap asks_check c.kind-kind.ensures)
    (subst (λ (a : NextAnswer). IsTaken a c.need_of-need.result text rest bytes c.take_answer.new.answers) c.in-Waits.is
    (c.in_ok-answer.ensures.taken bytes text rest h)) stands

pub returns-in-Missing-clause-turn : goal.returns-in-Missing-clause-turn
returns-in-Missing-clause-turn c = λ bytes text rest taken early pairs h stands check.
    let dialogue = c.args.dialogue.now in
    taken_missing early (start_of dialogue.stack) c.print_success.result pairs
    (command_view c.args.command.now) c.need_of-need.result text rest bytes c.take_answer.new.answers
    (state_behind taken dialogue) c.in-Missing.fault (dialogue.commands + 1) c.want_of_answer.result
    (c.need_of-need.ensures
    ∙ ap (λ p. need_of_kind p c.print_success.result c.kind-kind.result) c.profile.ensures
    ∙ ap (need_of_kind (profile_of dialogue.stack) c.print_success.result) c.kind-kind.ensures)
    (c.print_success.ensures (effective_commands pairs) stands.stack)
    (ap (λ n. n + 1) stands.commands) c.want_of_answer.ensures
    (subst (λ (a : NextAnswer). IsTaken a c.need_of-need.result text rest bytes c.take_answer.new.answers)
    c.in-Missing.is (c.in_ok-answer.ensures.taken bytes text rest h)) stands

pub returns-clause-turn : goal.returns-clause-turn
returns-clause-turn c = λ bytes text rest taken early pairs h stands check.
    let dialogue = c.args.dialogue.now in
    taken_unfit early (start_of dialogue.stack) c.print_success.result pairs
    (command_view c.args.command.now) c.need_of-need.result text rest bytes c.take_answer.new.answers
    (state_behind taken dialogue) (dialogue.commands + 1) dialogue.answers
    (c.need_of-need.ensures
    ∙ ap (λ p. need_of_kind p c.print_success.result c.kind-kind.result) c.profile.ensures
    ∙ ap (need_of_kind (profile_of dialogue.stack) c.print_success.result) c.kind-kind.ensures)
    (c.print_success.ensures (effective_commands pairs) stands.stack)
    (ap (λ n. n + 1) stands.commands) stands.answers
    (subst (λ (a : NextAnswer). IsTaken a c.need_of-need.result text rest bytes c.take_answer.new.answers)
    c.in-Unexpected.is (c.in_ok-answer.ensures.taken bytes text rest h)) stands
