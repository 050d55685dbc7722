use Rattle.std.proofs.Common.{◌∙◌, ap}
use Rattle.smt_machine.specs.Costs.{capped}
use Rattle.smt_eval.proofs.TermCostLemmas.{AreTablesOf, cost_is}
use Rattle.smt_eval.proofs.closed.cost.Goals as goal

pub returns : goal.returns
returns c = λ script definitions t names holds term.
    let are : AreTablesOf c.tables_of.result c.args.library.now c.args.interpretation.now = record {
      nodes = c.tables_of.ensures.nodes;
      arounds = c.tables_of.ensures.arounds;
      count = c.tables_of.ensures.count;
      named = c.tables_of.ensures.named;
    } in
    c.cost_of_term.ensures
    ∙ ap capped (cost_is c.nodes_have_the_costs_of_their_terms.ensures c.tables_of.result c.args.library.now
    c.args.interpretation.now c.args.term script definitions t are names holds term)
