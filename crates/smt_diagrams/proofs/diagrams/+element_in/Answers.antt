use Rattle.std.proofs.Common.{sym, ap, ◌∙◌}
use Rattle.smt_diagrams.specs.Diagram.{element_at}
use Rattle.smt_diagrams.proofs.DiagramLemmas.{leaf_everywhere}
use Rattle.smt_diagrams.proofs.diagrams.+element_in.Goals as goal

pub returns-in-Leaf : goal.returns-in-Leaf
returns-in-Leaf t c =
    sym (ap (λ d. element_at c.args.forks.now c.args.bits d c.args.number) c.in-Leaf.is
    ∙ leaf_everywhere c.args.forks.now c.args.bits c.in-Leaf.element c.args.number)
