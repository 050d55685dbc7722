use Rattle.smt_eval.proofs.StructureCostLemmas.{node_has_least}
use Rattle.smt_eval.proofs.laws.nodes_take_the_least_of_their_terms.Goals as goal

pub returns : goal.returns
returns c = λ naming model script declared names definitions around i term terms bodies all theories elements distinct gives.
    node_has_least c.nodes_have_their_values.ensures c.nodes_have_their_costs.ensures naming model script declared names
    definitions terms bodies all theories elements distinct gives c.nodes_have_their_least.ensures around i term
