use Rattle.smt_machine.specs.Given.{given}
use Rattle.smt_machine.specs.Internal.States.{frame_of, state_of}
use Rattle.smt_machine.specs.Tables.{arounds_of, nodes_of}
use Rattle.smt_machine.specs.Memory.{arrays_in}
use Rattle.smt_machine.proofs.HeldLemmas.{grows_not}
use Rattle.smt_machine.proofs.StepLemmas.{paid_at, running_at, task_paid, turned, turned_grown, turned_less}
use Rattle.smt_machine.proofs.StepLemmas.{turned_paid}
use Rattle.smt_machine.proofs.machine.Machine.finish_tasks.Goals as goal

pub act-requires-clause-enough : goal.act-requires-clause-enough
act-requires-clause-enough c = task_paid (nodes_of c.args.tables.now) (arounds_of c.args.tables.now) c.args.root
    _ _ c.in-Some.task c.loop-task.self c.take_task.new.self c.loop-task.invariant.paid c.in-Some.ensures.tasks

pub loop-task-smaller : goal.loop-task-smaller
loop-task-smaller c = turned_less (nodes_of c.args.tables.now)
    (given (nodes_of c.args.tables.now) c.args.root (frame_of (state_of c.args.self.now)))
    c.in-Some.task c.loop-task.self c.take_task.new.self c.act.new.self c.loop-task.invariant.running
    c.take_task.ensures.state c.take_task.ensures.kept c.take_task.ensures.arrays c.in-Some.ensures.tasks
    c.in_ok-act.ensures.step

pub loop-task-preserved : goal.loop-task-preserved
loop-task-preserved c = record {
  running = turned (nodes_of c.args.tables.now)
      (given (nodes_of c.args.tables.now) c.args.root (frame_of (state_of c.args.self.now)))
      c.in-Some.task c.loop-task.self c.take_task.new.self c.act.new.self c.loop-task.invariant.running
      c.take_task.ensures.state c.take_task.ensures.kept c.take_task.ensures.arrays c.in-Some.ensures.tasks
      c.in_ok-act.ensures.step;
  grown = turned_grown (nodes_of c.args.tables.now)
      (given (nodes_of c.args.tables.now) c.args.root (frame_of (state_of c.args.self.now)))
      c.in-Some.task (arrays_in c.args.self.now) c.loop-task.self c.take_task.new.self c.act.new.self
      c.loop-task.invariant.running c.loop-task.invariant.grown
      c.take_task.ensures.state c.take_task.ensures.kept c.take_task.ensures.arrays c.in-Some.ensures.tasks
      c.in_ok-act.ensures.step;
  paid = turned_paid (nodes_of c.args.tables.now) (arounds_of c.args.tables.now) c.args.root _ _ _
      (given (nodes_of c.args.tables.now) c.args.root (frame_of (state_of c.args.self.now)))
      c.in-Some.task c.loop-task.self c.take_task.new.self c.act.new.self c.loop-task.invariant.running
      c.loop-task.invariant.paid
      c.take_task.ensures.state c.take_task.ensures.kept c.take_task.ensures.arrays c.in-Some.ensures.tasks
      c.in_ok-act.ensures.step
      c.act.ensures.counted;
}

pub loop-task-init : goal.loop-task-init
loop-task-init c = record {
  running = running_at (nodes_of c.args.tables.now) c.args.root c.args.self.now c.requires.before
      c.requires.remembers;
  grown = grows_not (arrays_in c.args.self.now);
  paid = paid_at (nodes_of c.args.tables.now) (arounds_of c.args.tables.now) c.args.root c.args.left.now
      c.args.self.now c.requires.before c.requires.enough;
}
