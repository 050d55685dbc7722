-- what was pulled and put so far
use Rattle.smt_dialogue.specs.History.{begun}
use Rattle.smt_dialogue.specs.Session.{StandsFor}
use Rattle.smt_dialogue.specs.Internal.RunStep.{IsAtRest, IsRunning}
use Rattle.smt_dialogue.specs.Internal.SessionStep.{left_of}
use Rattle.smt_dialogue.specs.Internal.StreamsView.{AreSound, SameReferences, devices_of}
use Rattle.smt_dialogue.specs.declared.options.Options.{Options}
use Rattle.smt_dialogue.proofs.runs.follow.Given as goal

abbrev pub invariant-loop-side : goal.invariant-loop-side
invariant-loop-side g l = record {
  rest : IsAtRest g.L.Outlet.is_done l.session;
  sound : AreSound g.R1.Source g.R2.Source g.L.Outlet l.session l.streams;
  references : SameReferences g.L.Outlet l.fn.streams l.streams;
  running : (options : Options) → StandsFor l.fn.session (begun options)
      → IsRunning (g.V.LineVisitor.has_visited l.streams.visitor.now) options
      (devices_of g.R1.Source g.R2.Source g.L.Outlet l.fn.streams)
      (devices_of g.R1.Source g.R2.Source g.L.Outlet l.streams) l.session;
}

abbrev pub decreases-loop-side : goal.decreases-loop-side
decreases-loop-side g l = left_of l.session
