use Rattle.smt_script.proofs.SinceLemmas.{theories_of_the_last, theories_of_the_start}
use Rattle.smt_script.proofs.laws.theories_in_force_are_the_last.Goals as goal

pub returns-clause-set : goal.returns-clause-set
returns-clause-set c = theories_of_the_last

pub returns-clause-start : goal.returns-clause-start
returns-clause-start c = theories_of_the_start
