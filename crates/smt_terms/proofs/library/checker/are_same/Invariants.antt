-- what is left decides, and each turn leaves less
use Rattle.std.proofs.Common.{◌≡◌, length}
use Rattle.smt_theory.specs.Shapes.{are_exactly}
use Rattle.smt_terms.proofs.library.checker.are_same.Given as goal

abbrev pub invariant-loop-arg : goal.invariant-loop-arg
invariant-loop-arg l = are_exactly l.fn.parameters l.fn.args ≡ are_exactly l.wanted l.left

abbrev pub decreases-loop-arg : goal.decreases-loop-arg
decreases-loop-arg l = length l.left
