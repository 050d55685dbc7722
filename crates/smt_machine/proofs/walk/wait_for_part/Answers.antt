use Rattle.smt_machine.specs.Internal.Parts.{number_of}
use Rattle.smt_machine.proofs.WalkLemmas.{part_waits}
use Rattle.smt_machine.proofs.walk.wait_for_part.Goals as goal

pub returns-in_ok-push-in-Some-clause-taken : goal.returns-in_ok-push-in-Some-clause-taken
returns-in_ok-push-in-Some-clause-taken c = λ cost.
    part_waits c.args.number cost (number_of c.args.part) c.in-Some.part c.args.waiting.now.items
    c.push.new.self.items c.args.left c.in-Some.ensures c.in_ok-push-in-Some.ensures.items
