use Rattle.smt_terms.proofs.IntroducedLemmas.{introduced-asserted}
use Rattle.smt_terms.proofs.laws.labels_are_introduced.Goals as goal

pub returns : goal.returns
returns c = introduced-asserted
