use Rattle.std.proofs.Common.{◌≡◌, ◌≤◌, length}
use Rattle.std.specs.Prelude.{vec_capacity, vec_len}
use Rattle.smt_machine.specs.Costs.{cost, greatest_of}
use Rattle.smt_machine.specs.Internal.Sums.{AreKept}
use Rattle.smt_machine.specs.Tables.{arounds_of, nodes_of}
use Rattle.smt_machine.proofs.counting.greatest_cost.Given as goal

abbrev pub invariant-loop-number : goal.invariant-loop-number
invariant-loop-number l = record {
  count : length l.costs.items ≡ l.number;
  costs : AreKept (cost (nodes_of l.tables) (arounds_of l.tables)) l.costs.items;
  most : l.most ≡ greatest_of l.number (cost (nodes_of l.tables) (arounds_of l.tables));
  len : vec_len l.costs ≡ l.number;
  room : l.count ≤ vec_capacity l.costs;
}
