use Rattle.smt_script.proofs.SinceLemmas.{global_of_the_last, global_of_the_start}
use Rattle.smt_script.proofs.laws.global_declarations_are_the_last.Goals as goal

pub returns-clause-set : goal.returns-clause-set
returns-clause-set c = global_of_the_last

pub returns-clause-start : goal.returns-clause-start
returns-clause-start c = global_of_the_start
