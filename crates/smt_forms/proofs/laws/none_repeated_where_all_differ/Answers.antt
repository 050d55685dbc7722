use Rattle.smt_forms.proofs.RepeatedLemmas.{none_twice}
use Rattle.smt_forms.proofs.laws.none_repeated_where_all_differ.Goals as goal

pub returns : goal.returns
returns c = none_twice
