-- the lines so far were visited
use Rattle.std.proofs.Common.{take}
use Rattle.smt_dialogue.specs.Internal.RunStep.{IsVisiting}
use Rattle.smt_dialogue.proofs.outlet.visit_all.Given as goal

abbrev pub invariant-loop-line : goal.invariant-loop-line
invariant-loop-line g l =
    IsVisiting (g.V.LineVisitor.has_visited l.fn.visitor) (g.V.LineVisitor.has_visited l.visitor)
    (take l.line-index l.lines)
