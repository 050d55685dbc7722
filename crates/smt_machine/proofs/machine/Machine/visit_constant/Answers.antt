use Rattle.std.proofs.Common.{◌∙◌, sym}
use Rattle.smt_machine.proofs.StepLemmas.{closed_step, if_done, kept_step, open_step}
use Rattle.smt_machine.proofs.machine.Machine.visit_constant.Goals as goal

pub returns-in-Some-kept : goal.returns-in-Some-kept
returns-in-Some-kept c = if_done c.leave.result c.leave.ensures
    (λ is nodes number part at below. kept_step nodes number part c.in-Some.body c.in-Some-kept.value
    c.args.self.now c.leave.new.self at (sym c.in-Some.is ∙ below)
    (sym c.in-Some-kept.is ∙ c.kept.ensures.kept) is c.requires)

pub returns-in-None-kept : goal.returns-in-None-kept
returns-in-None-kept c = if_done c.enter_closed.result c.enter_closed.ensures
    (λ is nodes number part at below. closed_step nodes number part c.in-Some.body
    c.args.self.now c.enter_closed.new.self at (sym c.in-Some.is ∙ below) is c.requires)

pub returns-in-None : goal.returns-in-None
returns-in-None c = if_done c.leave-in-None.result c.leave-in-None.ensures
    (λ is nodes number part at below. open_step nodes number part
    c.args.self.now c.leave-in-None.new.self at (sym c.in-None.is ∙ below) is c.requires)
