use Rattle.std.proofs.Common.{◌≡◌, length}
use Rattle.smt_theory.specs.Shapes.{width_behind}
use Rattle.smt_theory.proofs.shapes.width_behind.Given as goal

abbrev pub invariant-loop-next : goal.invariant-loop-next
invariant-loop-next l = width_behind l.fn.before l.fn.args ≡ width_behind l.width l.left

abbrev pub decreases-loop-next : goal.decreases-loop-next
decreases-loop-next l = length l.left
