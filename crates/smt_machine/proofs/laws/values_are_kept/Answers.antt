use Rattle.smt_machine.proofs.GivenLemmas.{given_kept}
use Rattle.smt_machine.proofs.laws.values_are_kept.Goals as goal

pub returns : goal.returns
returns c = given_kept
