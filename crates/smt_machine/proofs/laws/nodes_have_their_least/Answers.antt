use Rattle.smt_machine.proofs.LeastLemmas.{least_law}
use Rattle.smt_machine.proofs.laws.nodes_have_their_least.Goals as goal

pub returns : goal.returns
returns c = least_law
