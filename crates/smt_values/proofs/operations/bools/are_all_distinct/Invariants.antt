use Rattle.std.proofs.Common.{◌≡◌, length}
use Rattle.smt_values.specs.Element.{known_elements}
use Rattle.smt_values.specs.Internal.Same.{is_same_known}
use Rattle.smt_values.specs.Lists.{are_distinct}
use Rattle.smt_values.proofs.operations.bools.are_all_distinct.Given as goal

abbrev pub invariant-loop-first : goal.invariant-loop-first
invariant-loop-first l = are_distinct is_same_known (known_elements l.fn.args)
    ≡ are_distinct is_same_known (known_elements l.left)

abbrev pub decreases-loop-first : goal.decreases-loop-first
decreases-loop-first l = length l.left
