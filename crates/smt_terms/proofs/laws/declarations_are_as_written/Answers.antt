use Rattle.smt_terms.proofs.WrittenLemmas.{written-declared}
use Rattle.smt_terms.proofs.laws.declarations_are_as_written.Goals as goal

pub returns : goal.returns
returns c = written-declared
