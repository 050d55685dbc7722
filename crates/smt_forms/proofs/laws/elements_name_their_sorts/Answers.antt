use Rattle.smt_forms.proofs.ElementNameLemmas.{alone, named}
use Rattle.smt_forms.proofs.laws.elements_name_their_sorts.Goals as goal

pub returns : goal.returns
returns c = record {
  named = named;
  alone = alone;
}
