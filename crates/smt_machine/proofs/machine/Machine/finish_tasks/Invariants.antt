use Rattle.smt_arrays.specs.Tables.{Grows}
use Rattle.smt_machine.specs.Given.{given}
use Rattle.smt_machine.specs.Internal.States.{frame_of, state_of}
use Rattle.smt_machine.specs.Internal.Tasks.{IsPaid, IsRunning, work}
use Rattle.smt_machine.specs.Memory.{arrays_in}
use Rattle.smt_machine.specs.Tables.{arounds_of, nodes_of}
use Rattle.smt_machine.proofs.machine.Machine.finish_tasks.Given as goal

abbrev pub invariant-loop-task : goal.invariant-loop-task
invariant-loop-task l = record {
  running : IsRunning (nodes_of l.tables) (given (nodes_of l.tables) l.root (frame_of (state_of l.fn.self))) l.self;
  grown : Grows (arrays_in l.fn.self) (arrays_in l.self);
  paid : IsPaid (nodes_of l.tables) (arounds_of l.tables) l.root l.fn.left l.left l.self;
}

abbrev pub decreases-loop-task : goal.decreases-loop-task
decreases-loop-task l = work (nodes_of l.tables) l.self.tasks.items
