use Rattle.smt_arrays.proofs.StoreLemmas.{later_counts}
use Rattle.smt_arrays.proofs.laws.the_later_store_counts.Goals as goal

pub returns : goal.returns
returns c s t a i e f = later_counts s t a i e f
