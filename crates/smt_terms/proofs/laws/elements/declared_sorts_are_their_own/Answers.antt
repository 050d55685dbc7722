use Rattle.smt_terms.proofs.ElementLawLemmas.{abbreviated_as, declared_as, declared_own}
use Rattle.smt_terms.proofs.laws.elements.declared_sorts_are_their_own.Goals as goal

pub returns : goal.returns
returns c = record {
  own = declared_own;
  declared = declared_as;
  abbreviated = abbreviated_as;
}
