use Rattle.smt_terms.proofs.WrittenLemmas.{written-item}
use Rattle.smt_terms.proofs.laws.items_are_as_printed.Goals as goal

pub returns : goal.returns
returns c = written-item
