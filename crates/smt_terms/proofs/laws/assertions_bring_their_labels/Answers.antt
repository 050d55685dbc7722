use Rattle.smt_terms.proofs.WrittenLemmas.{written-asserted}
use Rattle.smt_terms.proofs.laws.assertions_bring_their_labels.Goals as goal

pub returns : goal.returns
returns c = written-asserted
