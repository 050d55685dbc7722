use Rattle.std.proofs.Common.{◌≡◌, ◌<◌, ◌≤◌, ℕ, Some, length, slice_get}
use Rattle.smt_nodes.specs.declared.annotated.AnnotatedNode.{AnnotatedNode}
use Rattle.smt_nodes.proofs.annotated.count_before.Given as goal

abbrev pub invariant-loop-count : goal.invariant-loop-count
invariant-loop-count l = record {
  within : l.count ≤ length l.nodes;
  kept : (i : ℕ) (x : AnnotatedNode) → slice_get l.nodes i ≡ Some x → x.row < l.row → i < l.count;
}

abbrev pub decreases-loop-count : goal.decreases-loop-count
decreases-loop-count l = l.count
