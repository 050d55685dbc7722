use Rattle.smt_arrays.proofs.StoreLemmas.{written_is_read}
use Rattle.smt_arrays.proofs.laws.what_is_stored_is_read.Goals as goal

pub returns : goal.returns
returns c z a i e j = written_is_read a i e j
