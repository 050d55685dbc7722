use Rattle.smt_eval.proofs.StructureCostLemmas.{node_has_cost}
use Rattle.smt_eval.proofs.laws.nodes_have_the_costs_of_their_terms.Goals as goal

pub returns : goal.returns
returns c = λ naming model script declared names definitions around i term terms bodies all theories elements distinct gives.
    node_has_cost c.nodes_have_their_values.ensures c.nodes_have_their_costs.ensures naming model script declared names
    definitions terms bodies all theories elements distinct gives around i term
