use Rattle.smt_dialogue.proofs.RunLemmas.{stopped_failed, stands_settled}
use Rattle.smt_dialogue.specs.Run.{Devices}
use Rattle.std.proofs.Common.{Some, []}
use Rattle.smt_dialogue.proofs.outlet.KeptOutlet.settle.Goals as goal

pub returns-in-Ok-clause-settled : goal.returns-in-Ok-clause-settled
returns-in-Ok-clause-settled g c = λ options before now r.
    let start : Devices = record now { out = Some [] } in
    stands_settled (g.V.LineVisitor.has_visited c.args._visitor.now) options before start c.args.session.now
    c.rest.new.self c.rest.ensures.stands r

pub returns-in-Err-clause-settled : goal.returns-in-Err-clause-settled
returns-in-Err-clause-settled g c = λ options before now r.
    let start : Devices = record now { out = Some [] } in
    stopped_failed (g.V.LineVisitor.has_visited c.args._visitor.now) options before start c.args.session.now
    c.rest.new.self c.in-Err.failed c.fault_of.result
    c.fault_of.ensures c.in-Err.ensures.failed c.rest.ensures.stands r
