use Rattle.smt_script.proofs.IntroducedLemmas.{names_alike}
use Rattle.smt_script.proofs.laws.declarations_are_alike.Goals as goal

pub returns : goal.returns
returns c = names_alike
