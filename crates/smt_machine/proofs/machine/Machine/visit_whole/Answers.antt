use Rattle.std.proofs.Common.{◌∙◌, None, refl}
use Rattle.smt_machine.specs.Tables.{nodes_of}
use Rattle.smt_machine.proofs.RunLemmas.{visited}
use Rattle.smt_machine.proofs.StepLemmas.{if_done}
use Rattle.smt_machine.proofs.machine.Machine.visit_whole.Goals as goal

pub returns-in-None : goal.returns-in-None
returns-in-None c = if_done c.leave.result c.leave.ensures
    (λ is. visited (nodes_of c.args.tables.now) c.args.number None None c.args.self.now c.leave.new.self
    (c.in-None.ensures.meaning ∙ c.place-place.ensures.node) (λ k. refl) refl is c.requires)
