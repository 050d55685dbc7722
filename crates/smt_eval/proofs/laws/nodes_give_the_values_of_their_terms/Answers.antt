use Rattle.smt_eval.proofs.StructureNodeLemmas.{node_gives_value}
use Rattle.smt_eval.proofs.laws.nodes_give_the_values_of_their_terms.Goals as goal

pub returns : goal.returns
returns c = λ naming model script declared names definitions around i term terms bodies all theories elements distinct gives.
    node_gives_value c.nodes_have_their_values.ensures naming model script declared names definitions terms bodies
    all theories elements distinct gives around i term
