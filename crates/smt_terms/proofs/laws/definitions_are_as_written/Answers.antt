use Rattle.smt_terms.proofs.WrittenLemmas.{written-defined}
use Rattle.smt_terms.proofs.laws.definitions_are_as_written.Goals as goal

pub returns : goal.returns
returns c = written-defined
