use Rattle.std.proofs.Common.{◌+◌, ◌∙◌, Some, ap, length, sym}
use Rattle.std.proofs.lemmas.List.{length-map}
use Rattle.smt_machine.specs.Internal.Parts.{numbers_of}
use Rattle.smt_machine.specs.Nodes.{Apply}
use Rattle.smt_machine.proofs.RunLemmas.{visit_operated}
use Rattle.smt_machine.proofs.StepLemmas.{choice_planned, if_done}
use Rattle.smt_machine.proofs.machine.Machine.visit_plain.Goals as goal

pub returns-in-Some : goal.returns-in-Some
returns-in-Some c = if_done c.plan.result c.plan.ensures
    (λ is nodes at. choice_planned nodes c.args.number c.op.result (numbers_of c.args.args)
    (numbers_of c.in-Some.condition) c.args.self.now c.plan.new.self
    (ap (λ o. Some (Apply o (numbers_of c.args.args))) c.op.ensures ∙ at) c.in-Some.ensures is c.requires)

pub returns-in-None : goal.returns-in-None
returns-in-None c = if_done c.plan-in-None.result c.plan-in-None.ensures
    (λ is nodes at. visit_operated nodes c.args.number (length c.args.args.ids.now) c.args.op
    (numbers_of c.args.args) c.args.self.now c.plan-in-None.new.self at
    (sym (length-map c.args.args.ids.now (λ id. c.args.args.shift + id))) is c.requires)
