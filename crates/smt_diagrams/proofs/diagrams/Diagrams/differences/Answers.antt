use Rattle.std.proofs.Common.{subst, ◌∙◌}
use Rattle.smt_diagrams.specs.Diagram.{AreAdded, AreDifferences, element_at}
use Rattle.smt_diagrams.proofs.DifferenceLemmas.{all_added}
use Rattle.smt_diagrams.proofs.diagrams.Diagrams.differences.Goals as goal

pub returns : goal.returns
returns c =
    let same = c.as_slice.ensures.keys ∙ c.self.view_is in
    subst
    (λ forks. AreDifferences c.args.bits (element_at forks c.args.bits c.args.a) (element_at forks c.args.bits c.args.b)
    c.add_differences.new.found.items)
    same
    (all_added c.as_slice.result.now c.args.bits c.args.a c.args.b c.add_differences.new.found.items
    (subst (λ old. AreAdded c.as_slice.result.now c.args.bits c.args.a c.args.b old
    c.add_differences.new.found.items) c.new-found.ensures.items c.in_ok-add_differences.ensures))
