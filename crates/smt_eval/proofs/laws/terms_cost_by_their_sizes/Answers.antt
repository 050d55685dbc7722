use Rattle.smt_eval.proofs.StructureCostLemmas.{sized_by_greatest}
use Rattle.smt_eval.proofs.laws.terms_cost_by_their_sizes.Goals as goal

pub returns : goal.returns
returns c = λ naming model script declared names definitions term terms bodies all theories elements distinct gives none below.
    sized_by_greatest c.nodes_have_their_values.ensures c.nodes_have_their_costs.ensures naming model script declared
    names definitions terms bodies all theories elements distinct gives none below term
