use Rattle.std.proofs.Common.{◌≡◌, ◌≤◌, ◌+◌, ◌++◌, drop, length}
use Rattle.smt_forms.specs.ScopeView.{scope_view}
use Rattle.smt_terms.specs.Internal.DraftView.{placed_from, seen_by}
use Rattle.smt_terms.proofs.library.draft.Draft.bind.Given as goal

abbrev pub invariant-loop-left : goal.invariant-loop-left
invariant-loop-left l = record {
  seen : seen_by l.self ≡ placed_from (l.first + l.left) (scope_view (drop l.left l.variables)) ++ seen_by l.fn.self;
  base : l.self.base ≡ l.fn.self.base;
  labels : l.self.labels ≡ l.fn.self.labels;
  nodes : l.self.nodes ≡ l.fn.self.nodes;
  arguments : l.self.arguments ≡ l.fn.self.arguments;
  within : l.left ≤ length l.variables;
}

abbrev pub decreases-loop-left : goal.decreases-loop-left
decreases-loop-left l = l.left
