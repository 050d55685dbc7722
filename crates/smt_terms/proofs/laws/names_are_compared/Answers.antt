use Rattle.smt_terms.proofs.NameLemmas.{name_compared}
use Rattle.smt_terms.proofs.laws.names_are_compared.Goals as goal

pub returns : goal.returns
returns c = name_compared
