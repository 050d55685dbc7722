use Rattle.std.proofs.Common.{refl, sym}
use Rattle.smt_trees.specs.Owned.{sexp_of}
use Rattle.smt_trees.specs.View as view
use Rattle.smt_script.specs.CommandView.{command_view}
use Rattle.smt_script.specs.StackView.{profile_of}
use Rattle.smt_dialogue.proofs.PairingLemmas.{read_again, unread}
use Rattle.smt_dialogue.proofs.ReplayLemmas.{applied_none, applied_one, applied_refused, applies_by, goes_on_read}
use Rattle.smt_dialogue.proofs.ReplayLemmas.{grown_none, grown_one, refused_so}
use Rattle.smt_dialogue.proofs.replay.Replay.apply.Goals as goal

pub returns-in_default-clause-applied : goal.returns-in_default-clause-applied
returns-in_default-clause-applied c = λ dialogue place h.
    let done = applied_none c.args.self.now dialogue place c.requires.goes_on c.in_default.is h in
    let at = done.1 in (
      done.0,
      record {
        start = at.start;
        place_is = at.place_is;
        in_force = at.in_force;
        number = at.number;
        later = at.later;
        script = at.script;
        command = at.command;
        rest = at.rest;
        answers = at.answers;
        answer = at.answer;
      },
      done.2,
      done.3,
      done.4,
    )

pub returns-in_default-clause-stands : goal.returns-in_default-clause-stands
returns-in_default-clause-stands c = λ applied commands h.
    (commands, h, grown_none c.args.self.now commands c.in_default.is)

pub returns-in_default-read_command-clause-applied : goal.returns-in_default-read_command-clause-applied
returns-in_default-read_command-clause-applied c = λ dialogue place h.
    let x = c.args.self.now in
    let read = goes_on_read x dialogue place c.in-Some.tree c.requires.goes_on c.in-Some.is h in
    absurd (unread c.read_command.result c.profile.result (view.sexp_of c.view.result) read.0
    c.in_default-read_command.not-Ok c.read_command.ensures
    (read_again c.profile.result (profile_of x.stack) (view.sexp_of c.view.result) (sexp_of c.in-Some.tree) _
    (sym c.profile.ensures) (sym c.view.ensures) read.1))

pub returns-in-Some-flaw-clause-applied : goal.returns-in-Some-flaw-clause-applied
returns-in-Some-flaw-clause-applied c = λ dialogue place h.
    let x = c.args.self.now in
    applied_refused x _ dialogue place c.in-Some.tree (command_view c.in-Ok.command) c.in-Some-flaw.field-0
    c.requires.goes_on c.in-Some.is
    (read_again (profile_of x.stack) c.profile.result (sexp_of c.in-Some.tree) (view.sexp_of c.view.result) _
    c.profile.ensures c.view.ensures c.in-Ok.ensures)
    refl refl refl refl refl refl c.apply_if.ensures.start
    (refused_so x (command_view c.in-Ok.command) c.in-Err.fault c.in-Some-flaw.field-0 (sym c.in-Some-flaw.ensures)
    c.in-Err.ensures.refused) c.in-Err.ensures.unchanged.0 h

pub returns-clause-applied : goal.returns-clause-applied
returns-clause-applied c = λ dialogue place h.
    let x = c.args.self.now in
    applied_one x _ dialogue place c.in-Some.tree (command_view c.in-Ok.command) c.requires.goes_on c.in-Some.is
    (read_again (profile_of x.stack) c.profile.result (sexp_of c.in-Some.tree) (view.sexp_of c.view.result) _
    c.profile.ensures c.view.ensures c.in-Ok.ensures)
    refl refl refl refl refl c.apply_if.ensures.start
    (applies_by x c.apply_if.new.stack (command_view c.in-Ok.command) c.in_default-apply_if.ensures.applied) h

pub returns-clause-stands : goal.returns-clause-stands
returns-clause-stands c = λ applied commands h.
    let x = c.args.self.now in
    grown_one x c.apply_if.new.stack c.in-Some.tree (command_view c.in-Ok.command) c.in-Some.is
    (read_again (profile_of x.stack) c.profile.result (sexp_of c.in-Some.tree) (view.sexp_of c.view.result) _
    c.profile.ensures c.view.ensures c.in-Ok.ensures)
    (applies_by x c.apply_if.new.stack (command_view c.in-Ok.command) c.in_default-apply_if.ensures.applied) commands h
