use Rattle.std.proofs.Common.{◌≡◌, ◌≤◌, length}
use Rattle.smt_trees.specs.Places.{size_of}
use Rattle.smt_terms.specs.Internal.Calls.{SeesTheSame}
use Rattle.smt_terms.specs.Internal.DraftView.{argument_sorts}
use Rattle.smt_terms.specs.Internal.Frames.{Begun, IsCalled}
use Rattle.smt_terms.specs.Internal.NodesView.{GrowsTo}
use Rattle.smt_terms.proofs.library.Library.check_arguments.Given as goal

abbrev pub invariant-loop-term : goal.invariant-loop-term
invariant-loop-term l = record {
  kept : SeesTheSame l.fn.draft l.draft;
  start : l.application.start ≤ length (argument_sorts l.draft.arguments);
  longer : GrowsTo l.fn.draft l.draft;
  frames : l.frames.items ≡ l.fn.frames.items;
  smaller : size_of l.left ≤ size_of l.fn.left;
  called : (outer : Begun) → IsCalled l.self l.whole l.application l.fn.left l.fn.is_open outer l.fn.draft
      → IsCalled l.self l.whole l.application l.left l.is_open outer l.draft;
}

abbrev pub decreases-loop-term : goal.decreases-loop-term
decreases-loop-term l = size_of l.left
