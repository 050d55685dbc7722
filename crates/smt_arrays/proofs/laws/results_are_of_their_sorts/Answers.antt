use Rattle.smt_arrays.proofs.SortLemmas.{result_sort}
use Rattle.smt_arrays.proofs.laws.results_are_of_their_sorts.Goals as goal

pub returns : goal.returns
returns c z op sorts sort args r h = result_sort c.results_are_of_their_sorts.ensures z sorts sort args op r h
