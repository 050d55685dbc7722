use Rattle.std.proofs.Common.{ap, ◌∙◌, length, slice_get}
use Rattle.smt_nodes.specs.Nodes.{rows_of}
use Rattle.smt_nodes.specs.PartsView.{parts_view}
use Rattle.smt_machine.specs.Costs.{capped, node_cost}
use Rattle.smt_machine.specs.Internal.Parts.{found}
use Rattle.smt_machine.proofs.SumLemmas.{node_counted}
use Rattle.smt_machine.proofs.counting.cost_at.Goals as goal

pub returns-in-Some : goal.returns-in-Some
returns-in-Some c = λ cost kept.
    let at = c.args.from.now in
    let n = length c.args.kept.now in
    node_counted n cost at (slice_get (rows_of at.nodes.now) at.number)
    (parts_view c.in-Some.parts) c.in-Some.around c.saturating_add.result c.parts_of.result
    c.saturating_add-in-Some.result c.in-Some.ensures.parts c.saturating_add.ensures
    (c.parts_of.ensures cost kept) c.saturating_add-in-Some.ensures
    ∙ ap (λ a. capped (node_cost n cost a (found at))) c.in-Some.ensures.around
