-- what was told of the session was put so far, and turns may be left
use Rattle.std.proofs.Common.{◌≡◌, false}
use Rattle.smt_dialogue.specs.History.{History}
use Rattle.smt_dialogue.specs.Run.{Devices}
use Rattle.smt_dialogue.specs.Internal.RunStep.{IsFedRun}
use Rattle.smt_dialogue.specs.Internal.SessionStep.{IsFed, SameTexts, StaysFailed, turns_left}
use Rattle.smt_dialogue.specs.declared.options.Options.{Options}
use Rattle.smt_dialogue.proofs.outlet.PutOutlet.settle.Given as goal

abbrev pub invariant-loop-self : goal.invariant-loop-self
invariant-loop-self g l = record {
  fed : (h : History) × IsFed l.session h;
  sound : g.W.Sink.is_broken l.self.out.now ≡ false;
  texts : SameTexts l.fn.session l.session;
  stays : StaysFailed l.fn.session l.session;
  reference : l.self.out.ghost_name ≡ l.fn.self.out.ghost_name;
  runs : (options : Options) (before now : Devices)
      → IsFedRun (g.V.LineVisitor.has_visited l.fn.visitor) options before
      (record now { out = g.W.Sink.taken l.fn.self.out.now }) l.fn.session
      → IsFedRun (g.V.LineVisitor.has_visited l.visitor) options before
      (record now { out = g.W.Sink.taken l.self.out.now }) l.session;
}

abbrev pub decreases-loop-self : goal.decreases-loop-self
decreases-loop-self g l = turns_left l.session
