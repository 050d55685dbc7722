use Rattle.std.proofs.Common.{◌+◌, ◌∷◌, [], ap, arith, length, length-append}
use Rattle.smt_machine.proofs.RunLemmas.{plan_next}
use Rattle.smt_machine.proofs.machine.Machine.plan.Goals as goal

pub loop-last-preserved : goal.loop-last-preserved
loop-last-preserved c = record {
  tasks = plan_next c.args.number (λ id. c.args.parts.shift + id) c.loop-last.left.now c.in-Some.rest.now
      c.in-Some.last.now c.task_of.result _ c.loop-last.self.tasks.items c.push_reserved-in-Some.new.self.items
      c.in-Some.ensures.cases.0 c.task_of.ensures c.loop-last.invariant.tasks c.push_reserved-in-Some.ensures.items;
  room = omega (
    arith,
    c.loop-last.invariant.room,
    c.push_reserved-in-Some.ensures.len,
    c.push_reserved-in-Some.ensures.capacity,
    ap length c.in-Some.ensures.cases.0,
    length-append c.in-Some.rest.now (c.in-Some.last.now ∷ []),
  );
  state = c.loop-last.invariant.state;
  kept = c.loop-last.invariant.kept;
  arrays = c.loop-last.invariant.arrays;
}
