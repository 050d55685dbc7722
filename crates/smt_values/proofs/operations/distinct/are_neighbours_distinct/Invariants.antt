use Rattle.std.proofs.Common.{◌≡◌, length, not}
use Rattle.smt_values.specs.Element.{known_element}
use Rattle.smt_values.specs.Internal.Same.{is_same_known}
use Rattle.smt_values.specs.Lists.{are_chained}
use Rattle.smt_values.proofs.operations.distinct.are_neighbours_distinct.Given as goal

abbrev pub invariant-loop-left : goal.invariant-loop-left
invariant-loop-left l =
    are_chained (λ a b. not (is_same_known (known_element a) (known_element b))) l.fn.args
    ≡ are_chained (λ a b. not (is_same_known (known_element a) (known_element b))) l.left

abbrev pub decreases-loop-left : goal.decreases-loop-left
decreases-loop-left l = length l.left
