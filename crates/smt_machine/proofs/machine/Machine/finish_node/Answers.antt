use Rattle.std.proofs.Common.{◌∙◌, ◌+◌, Some, ap, length, sym}
use Rattle.std.proofs.lemmas.List.{length-map}
use Rattle.smt_machine.specs.Internal.Parts.{meaning}
use Rattle.smt_machine.specs.Tables.{shifted}
use Rattle.smt_machine.proofs.StepLemmas.{bound_step, if_done, operated_step}
use Rattle.smt_machine.proofs.machine.Machine.finish_node.Goals as goal

pub returns-in-Apply : goal.returns-in-Apply
returns-in-Apply c = if_done c.operate_numbered.result c.operate_numbered.ensures
    (λ is nodes at. operated_step nodes c.args.number (length c.in-Apply.args.now) c.in-Apply.op
    (shifted c.args.from.now.shift c.in-Apply.args.now) c.args.self.now c.operate_numbered.new.self
    (sym (ap (λ n. Some (meaning c.args.from.now n)) c.in-Apply.is) ∙ at)
    (length-map c.in-Apply.args.now (λ id. c.args.from.now.shift + id)) is c.requires)

pub returns-in-Let : goal.returns-in-Let
returns-in-Let c = if_done c.bind.result c.bind.ensures
    (λ is nodes at. bound_step nodes c.args.number (length c.in-Let.values.now)
    (c.args.from.now.shift + c.in-Let.body) (shifted c.args.from.now.shift c.in-Let.values.now)
    c.args.self.now c.bind.new.self (sym (ap (λ n. Some (meaning c.args.from.now n)) c.in-Let.is) ∙ at)
    (length-map c.in-Let.values.now (λ id. c.args.from.now.shift + id)) is c.requires)
