use Rattle.smt_machine.specs.Internal.Parts.{numbers_of}
use Rattle.smt_machine.specs.Nodes.{Apply}
use Rattle.smt_machine.proofs.RunLemmas.{visit_planned}
use Rattle.smt_machine.proofs.StepLemmas.{choice_planned, if_done}
use Rattle.smt_machine.proofs.machine.Machine.visit_args.Goals as goal

pub returns-in-Some : goal.returns-in-Some
returns-in-Some c = if_done c.plan.result c.plan.ensures
    (λ is nodes at. choice_planned nodes c.args.number c.args.op.now (numbers_of c.args.args)
    (numbers_of c.in-Some.condition) c.args.self.now c.plan.new.self at c.in-Some.ensures is c.requires)

pub returns-in-None : goal.returns-in-None
returns-in-None c = if_done c.plan-in-None.result c.plan-in-None.ensures
    (λ is nodes at. visit_planned nodes c.args.number (Apply c.args.op.now (numbers_of c.args.args))
    c.args.self.now c.plan-in-None.new.self at tt is c.requires)
