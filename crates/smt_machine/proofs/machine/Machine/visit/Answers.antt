use Rattle.std.proofs.Common.{◌∙◌, None, refl}
use Rattle.smt_machine.specs.Tables.{nodes_of}
use Rattle.smt_machine.proofs.PartLemmas.{none_at}
use Rattle.smt_machine.proofs.RunLemmas.{visited}
use Rattle.smt_machine.proofs.StepLemmas.{if_done}
use Rattle.smt_machine.proofs.machine.Machine.visit.Goals as goal

pub returns-in-None-clause-step : goal.returns-in-None-clause-step
returns-in-None-clause-step c = if_done c.leave.result c.leave.ensures
    (λ is. visited (nodes_of c.args.tables.now) c.args.number None None c.args.self.now c.leave.new.self
    (none_at c.place-place.result c.in-None.ensures.parts ∙ c.place-place.ensures.node) (λ k. refl) refl is
    c.requires.based)
