use Rattle.smt_script.proofs.SinceLemmas.{print_of_the_last, print_of_the_start}
use Rattle.smt_script.proofs.laws.print_success_is_the_last.Goals as goal

pub returns-clause-set : goal.returns-clause-set
returns-clause-set c = print_of_the_last

pub returns-clause-start : goal.returns-clause-start
returns-clause-start c = print_of_the_start
