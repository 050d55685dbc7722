use Rattle.smt_diagrams.proofs.LawLemmas.{commute}
use Rattle.smt_diagrams.proofs.laws.stores_at_two_numbers_commute.Goals as goal

pub returns : goal.returns
returns c = commute
