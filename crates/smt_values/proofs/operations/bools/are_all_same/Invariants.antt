use Rattle.std.proofs.Common.{◌≡◌, length}
use Rattle.smt_values.specs.Element.{known_elements}
use Rattle.smt_values.specs.Internal.Same.{is_same_known}
use Rattle.smt_values.specs.Lists.{are_chained}
use Rattle.smt_values.proofs.operations.bools.are_all_same.Given as goal

abbrev pub invariant-loop-left : goal.invariant-loop-left
invariant-loop-left l =
    are_chained is_same_known (known_elements l.fn.args) ≡ are_chained is_same_known (known_elements l.left)

abbrev pub decreases-loop-left : goal.decreases-loop-left
decreases-loop-left l = length l.left
