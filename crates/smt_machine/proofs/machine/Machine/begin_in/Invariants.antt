use Rattle.std.proofs.Common.{◌≡◌, ◌∷◌, [], ◌++◌, length}
use Rattle.smt_arrays.specs.Tables.{all_known_in}
use Rattle.smt_machine.specs.Memory.{arrays_in}
use Rattle.smt_machine.proofs.machine.Machine.begin_in.Given as goal

abbrev pub invariant-loop-value : goal.invariant-loop-value
invariant-loop-value l = record {
  tasks : l.self.tasks.items ≡ l.fn.task ∷ [];
  values : l.self.values.items ≡ [];
  base : l.self.base ≡ 0;
  kept : l.self.kept ≡ l.fn.self.kept;
  arrays : l.self.arrays ≡ l.fn.self.arrays;
  frames : all_known_in (arrays_in l.fn.self) l.fn.frame
      ≡ all_known_in (arrays_in l.fn.self) l.self.frames.items ++ all_known_in (arrays_in l.fn.self) l.left;
}

abbrev pub decreases-loop-value : goal.decreases-loop-value
decreases-loop-value l = length l.left
