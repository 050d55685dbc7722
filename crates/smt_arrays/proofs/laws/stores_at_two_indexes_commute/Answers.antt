use Rattle.smt_arrays.proofs.StoreLemmas.{stores_commute}
use Rattle.smt_arrays.proofs.laws.stores_at_two_indexes_commute.Goals as goal

pub returns : goal.returns
returns c s t a i j e f = stores_commute s t a i j e f
