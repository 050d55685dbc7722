use Rattle.smt_terms.proofs.KeptLemmas.{kept-sort}
use Rattle.smt_terms.proofs.laws.sorts_are_kept.Goals as goal

pub returns : goal.returns
returns c = λ names more scope term sort keeps h. kept-sort names more keeps scope term sort h
