use Rattle.std.proofs.Common.{◌∙◌, ◌+◌, ap, nat_eq, sym}
use Rattle.std.proofs.lemmas.List.{length-map}
use Rattle.smt_machine.specs.Internal.Parts.{numbers_of}
use Rattle.smt_machine.specs.Nodes.{Apply}
use Rattle.smt_machine.specs.Tables.{nodes_of}
use Rattle.smt_machine.proofs.RunLemmas.{visit_planned}
use Rattle.smt_machine.proofs.StepLemmas.{if_done}
use Rattle.smt_machine.proofs.machine.Machine.visit_operator.Goals as goal

pub returns : goal.returns
returns c = if_done c.plan.result c.plan.ensures
    (λ is some. let o = some (ap (λ n. nat_eq n 0)
    (length-map c.args.args.ids.now (λ id. c.args.args.shift + id)) ∙ sym c.is_empty.ensures ∙ c.if-is_empty.false) in
    visit_planned (nodes_of c.args.tables.now) c.args.number (Apply o.0 (numbers_of c.args.args)) c.args.self.now
    c.plan.new.self o.1 tt is c.requires)
