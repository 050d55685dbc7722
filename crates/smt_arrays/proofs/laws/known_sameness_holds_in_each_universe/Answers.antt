use Rattle.smt_arrays.proofs.UniverseLemmas.{in_each_universe}
use Rattle.smt_arrays.proofs.laws.known_sameness_holds_in_each_universe.Goals as goal

pub returns : goal.returns
returns c s t a b some universe known = in_each_universe s t a b some universe known
