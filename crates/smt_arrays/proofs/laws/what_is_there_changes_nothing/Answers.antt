use Rattle.smt_arrays.proofs.StoreLemmas.{what_is_there}
use Rattle.smt_arrays.proofs.laws.what_is_there_changes_nothing.Goals as goal

pub returns : goal.returns
returns c s t a i = what_is_there s t a i
