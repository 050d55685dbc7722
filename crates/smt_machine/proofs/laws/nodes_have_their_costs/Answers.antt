use Rattle.smt_machine.proofs.GivenLemmas.{cost_law}
use Rattle.smt_machine.proofs.laws.nodes_have_their_costs.Goals as goal

pub returns : goal.returns
returns c = cost_law
