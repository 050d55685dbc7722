use Rattle.std.proofs.Common.{◌∙◌, ap, option_map, sym}
use Rattle.smt_trees.specs.Owned.{sexp_of}
use Rattle.smt_trees.specs.View as view
use Rattle.smt_script.specs.CommandView.{command_view}
use Rattle.smt_script.specs.StackView.{profile_of}
use Rattle.smt_dialogue.proofs.PairingLemmas.{read_again}
use Rattle.smt_dialogue.proofs.ReplayAnswerLemmas.{needs_none, needs_one, needs_unread}
use Rattle.smt_dialogue.proofs.ReplayLemmas.{never_in_turn}
use Rattle.smt_dialogue.specs.Answers.{need_of_kind}
use Rattle.smt_dialogue.specs.Pairs.{effective_commands}
use Rattle.smt_dialogue.proofs.replay.Replay.need.Goals as goal

pub returns-in_default : goal.returns-in_default
returns-in_default c = λ dialogue place tree at is. never_in_turn c.args.self.now tree c.in_default.is is

pub returns-then-exited : goal.returns-then-exited
returns-then-exited c = λ dialogue place tree at is.
    needs_none c.args.self.now dialogue place tree
    (sym (c.exited.ensures (effective_commands place.pairs) at.in_force) ∙ c.if-exited.true) at is

pub returns-in-Ok : goal.returns-in-Ok
returns-in-Ok c = λ dialogue place tree at is.
    let x = c.args.self.now in
    needs_one x dialogue place tree (sexp_of c.in-Some.tree) (command_view c.in-Ok.command) c.print_success.result
    c.need_of.result (sym (c.exited.ensures (effective_commands place.pairs) at.in_force) ∙ c.if-exited.false)
    (ap (option_map sexp_of) c.in-Some.is)
    (read_again (profile_of x.stack) c.profile-profile.result (sexp_of c.in-Some.tree) (view.sexp_of c.view.result) _
    c.profile-profile.ensures c.view.ensures c.in-Ok.ensures)
    (c.need_of.ensures
    ∙ ap (λ p. need_of_kind p c.print_success.result c.kind.result) c.profile-profile.ensures
    ∙ ap (need_of_kind (profile_of x.stack) c.print_success.result) c.kind.ensures)
    (c.print_success.ensures (effective_commands place.pairs) at.in_force) at is

pub returns-in-Err : goal.returns-in-Err
returns-in-Err c = λ dialogue place tree at is.
    let x = c.args.self.now in
    needs_unread x dialogue place tree (sexp_of c.in-Some.tree) c.in-Err.field-0
    (sym (c.exited.ensures (effective_commands place.pairs) at.in_force) ∙ c.if-exited.false)
    (ap (option_map sexp_of) c.in-Some.is)
    (read_again (profile_of x.stack) c.profile-profile.result (sexp_of c.in-Some.tree) (view.sexp_of c.view.result) _
    c.profile-profile.ensures c.view.ensures c.in-Err.ensures) at is
