use Rattle.smt_eval.proofs.NumberingLemmas.{numbers_for_names}
use Rattle.smt_eval.proofs.laws.numbers_stand_for_names.Goals as goal

pub returns : goal.returns
returns c = numbers_for_names c.places_are_of_one_name.ensures
