use Rattle.std.proofs.Common.{sym, subst, ◌∙◌, ap}
use Rattle.std.proofs.lemmas.Result.{err_from_is_err_and}
use Rattle.smt_terms.specs.Contents.{Contents, contents_of}
use Rattle.smt_script.specs.Command.{effect_of}
use Rattle.smt_script.specs.CommandView.{command_view}
use Rattle.smt_script.specs.StackView.{HoldsAfter}
use Rattle.smt_script.specs.declared.stack.Stack.{Stack}
use Rattle.smt_script.proofs.AppliedLemmas.{applied_stands, none_left, unchanged_stands}
use Rattle.smt_script.proofs.stack.Stack.apply.Goals as goal

pub returns-clause-applied : goal.returns-clause-applied
returns-clause-applied c =
    applied_stands c.args.self.now c.try_effect.new.self c.note.new.self c.end_assumptions.new.self c.args.number
    (command_view c.args.command.now) c.in_ok-try_effect.ensures.effect c.in_ok-try_effect.ensures.assumed
    c.note.ensures c.end_assumptions.ensures

pub returns-clause-held : goal.returns-clause-held
returns-clause-held c =
    let same = c.end_assumptions.ensures.library ∙ ap (λ (s : Stack). contents_of s.library) c.note.ensures in
    subst (λ (x : Contents). HoldsAfter c.args.self.now (effect_of (command_view c.args.command.now)) x) (sym same)
    c.in_ok-try_effect.ensures.held

pub returns-clause-ended : goal.returns-clause-ended
returns-clause-ended c = λ ends.
    none_left (command_view c.args.command.now) c.note.new.self c.end_assumptions.new.self c.end_assumptions.ensures
    ends

pub returns-in_err-try_effect-clause-unchanged : goal.returns-in_err-try_effect-clause-unchanged
returns-in_err-try_effect-clause-unchanged c =
    let p = err_from_is_err_and c.from_residual.result c.from_residual.ensures.1 in
    let same = c.in_err-try_effect.ensures.unchanged in
    rw p.1 (
      λ commands h. unchanged_stands c.args.self.now c.try_effect.new.self same commands h,
      same.notes.last,
      same.library,
    )
