use Rattle.std.proofs.Common.{◌≡◌, ◌<◌, ◌≤◌, ℕ, Some, length, slice_get}
use Rattle.smt_nodes.specs.declared.large.LargeNumber.{LargeNumber}
use Rattle.smt_nodes.proofs.large.count_before.Given as goal

abbrev pub invariant-loop-count : goal.invariant-loop-count
invariant-loop-count l = record {
  within : l.count ≤ length l.numbers;
  kept : (i : ℕ) (x : LargeNumber) → slice_get l.numbers i ≡ Some x → x.row < l.row → i < l.count;
}

abbrev pub decreases-loop-count : goal.decreases-loop-count
decreases-loop-count l = l.count
