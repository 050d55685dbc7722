use Rattle.std.proofs.Common.{reverse}
use Rattle.smt_trees.specs.Sexp.{Items}
use Rattle.smt_trees.specs.View.{sexps_of}
use Rattle.smt_terms.specs.Internal.Frames.{IsNestedStep, IsStep, begun, step_work}
use Rattle.smt_terms.specs.Internal.NodesView.{GrowsTo}
use Rattle.smt_terms.proofs.library.Library.walk.Given as goal

abbrev pub invariant-loop-step : goal.invariant-loop-step
invariant-loop-step l = record {
  is : IsStep l.self l.whole (reverse l.frames.items) (begun (Items (sexps_of l.whole)) l.fn.around l.fn.draft)
      l.draft l.step;
  nested : IsNestedStep (reverse l.frames.items) l.step;
  longer : GrowsTo l.fn.draft l.draft;
}

abbrev pub decreases-loop-step : goal.decreases-loop-step
decreases-loop-step l = step_work (reverse l.frames.items) l.step
