use Rattle.std.proofs.Common.{◌≡◌, ◌≤◌, ◌+◌, ◌∷◌, ◌++◌, length, map}
use Rattle.std.specs.Prelude.{vec_capacity, vec_len}
use Rattle.smt_machine.specs.Internal.States.{state_of}
use Rattle.smt_machine.specs.Internal.Tasks.{visits}
use Rattle.smt_machine.specs.Internal.Parts.{numbers_of}
use Rattle.smt_machine.proofs.machine.Machine.plan.Given as goal

abbrev pub invariant-loop-last : goal.invariant-loop-last
invariant-loop-last l = record {
  tasks : l.fn.self.tasks.items ++ (l.fn.task ∷ visits l.number (numbers_of l.parts))
      ≡ l.self.tasks.items ++ visits l.number (map (λ id. l.parts.shift + id) l.left);
  room : vec_len l.self.tasks + length l.left ≤ vec_capacity l.self.tasks;
  state : state_of l.self ≡ state_of l.fn.self;
  kept : l.self.kept ≡ l.fn.self.kept;
  arrays : l.self.arrays ≡ l.fn.self.arrays;
}

abbrev pub decreases-loop-last : goal.decreases-loop-last
decreases-loop-last l = length l.left
