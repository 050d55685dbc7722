-- what was counted and what those cost that wait is what the term costs
use Rattle.std.proofs.Common.{◌≡◌, ◌≤◌, ◌+◌}
use Rattle.smt_machine.specs.Costs.{cost}
use Rattle.smt_machine.specs.Internal.Walks.{sum_of}
use Rattle.smt_machine.specs.Tables.{arounds_of, nodes_of, term_cost}
use Rattle.smt_machine.proofs.walk.cost_within.Given as goal

abbrev pub invariant-loop-number : goal.invariant-loop-number
invariant-loop-number l = record {
  counted : l.left + term_cost l.tables l.fn.term
      ≡ l.limit + sum_of (cost (nodes_of l.tables) (arounds_of l.tables)) l.waiting.items;
  most : l.left ≤ l.limit;
}

abbrev pub decreases-loop-number : goal.decreases-loop-number
decreases-loop-number l = l.left
