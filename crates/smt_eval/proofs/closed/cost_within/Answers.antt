use Rattle.smt_eval.proofs.TermCostLemmas.{AreTablesOf, cost_is, within_same}
use Rattle.smt_eval.proofs.closed.cost_within.Goals as goal

pub returns-then-is_empty : goal.returns-then-is_empty
returns-then-is_empty c = λ script definitions t names holds term.
    let are : AreTablesOf c.tables_of-tables.result c.args.library.now c.args.interpretation.now = record {
      nodes = c.tables_of-tables.ensures.nodes;
      arounds = c.tables_of-tables.ensures.arounds;
      count = c.tables_of-tables.ensures.count;
      named = c.tables_of-tables.ensures.named;
    } in
    within_same c.cost_within.result c.args.limit _ _ c.cost_within.ensures
    (cost_is c.nodes_have_the_costs_of_their_terms.ensures c.tables_of-tables.result c.args.library.now
    c.args.interpretation.now c.args.term script definitions t are names holds term)
