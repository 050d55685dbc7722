use Rattle.std.proofs.Common.{◌∷◌, [], ◌∙◌, true, false, Some, ap, subst}
use Rattle.smt_arrays.specs.Element.{known_plain}
use Rattle.smt_values.specs.KnownOperations.{known_truth}
use Rattle.smt_machine.specs.Internal.States.{state_of}
use Rattle.smt_machine.specs.Internal.Parts.{numbers_of}
use Rattle.smt_machine.specs.Internal.Tasks.{IsPlanned}
use Rattle.smt_machine.specs.declared.task.Task.{Task}
use Rattle.smt_machine.proofs.StepLemmas.{chosen_none, chosen_one, if_done}
use Rattle.smt_machine.proofs.machine.Machine.choose_among.Goals as goal

pub returns-in-Some-true : goal.returns-in-Some-true
returns-in-Some-true c =
    let P : Task → Type 0 = λ t.
    IsPlanned (t ∷ []) (state_of c.take_last-condition.new.self) c.take_last-condition.new.self
    c.plan_part.new.self in
    if_done c.plan_part.result c.plan_part.ensures
    (λ is nodes at. chosen_one nodes c.args.number _ _ c.args.op.now (numbers_of c.args.args)
    c.truth.result true
    c.args.self.now c.take_last-condition.new.self c.plan_part.new.self at c.in-Some.ensures
    (c.truth.ensures c.args.self.now.arrays
    ∙ ap (λ v. known_truth (known_plain v)) c.take_last-condition.ensures.value)
    (c.in-Some-true.is ∙ ap (λ b. Some b) c.in-Some-true.field-0-test)
    c.take_last-condition.ensures.rest (subst P c.task_of.ensures is) c.requires)

pub returns-in-Some-false : goal.returns-in-Some-false
returns-in-Some-false c =
    let P : Task → Type 0 = λ t.
    IsPlanned (t ∷ []) (state_of c.take_last-condition.new.self) c.take_last-condition.new.self
    c.plan_part-in-Some-false.new.self in
    if_done c.plan_part-in-Some-false.result c.plan_part-in-Some-false.ensures
    (λ is nodes at. chosen_one nodes c.args.number _ _ c.args.op.now (numbers_of c.args.args)
    c.truth.result false
    c.args.self.now c.take_last-condition.new.self c.plan_part-in-Some-false.new.self at c.in-Some.ensures
    (c.truth.ensures c.args.self.now.arrays
    ∙ ap (λ v. known_truth (known_plain v)) c.take_last-condition.ensures.value)
    (c.in-Some-false.is ∙ ap (λ b. Some b) c.in-Some-false.field-0-test)
    c.take_last-condition.ensures.rest (subst P c.task_of-in-Some-false.ensures is) c.requires)

pub returns-in-None-truth : goal.returns-in-None-truth
returns-in-None-truth c = if_done c.leave.result c.leave.ensures
    (λ is nodes at. chosen_none nodes c.args.number _ _ c.args.op.now (numbers_of c.args.args)
    c.truth.result c.args.self.now c.take_last-condition.new.self c.leave.new.self at c.in-Some.ensures
    (c.truth.ensures c.args.self.now.arrays
    ∙ ap (λ v. known_truth (known_plain v)) c.take_last-condition.ensures.value)
    c.in-None-truth.is c.take_last-condition.ensures.rest is c.requires)
