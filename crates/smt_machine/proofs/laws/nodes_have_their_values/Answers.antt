use Rattle.smt_machine.proofs.GivenLemmas.{given_law}
use Rattle.smt_machine.proofs.laws.nodes_have_their_values.Goals as goal

pub returns : goal.returns
returns c = given_law
