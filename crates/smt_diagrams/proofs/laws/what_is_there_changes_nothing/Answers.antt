use Rattle.smt_diagrams.proofs.LawLemmas.{there}
use Rattle.smt_diagrams.proofs.laws.what_is_there_changes_nothing.Goals as goal

pub returns : goal.returns
returns c = there
