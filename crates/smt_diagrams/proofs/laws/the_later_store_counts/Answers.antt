use Rattle.smt_diagrams.proofs.LawLemmas.{later}
use Rattle.smt_diagrams.proofs.laws.the_later_store_counts.Goals as goal

pub returns : goal.returns
returns c = later
