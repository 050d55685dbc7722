use Rattle.smt_values.proofs.DivisionLemmas.{division_one}
use Rattle.smt_values.proofs.laws.division_is_by_the_law.Goals as goal

pub returns-clause-one : goal.returns-clause-one
returns-clause-one c = division_one
