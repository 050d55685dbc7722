use Rattle.smt_script.proofs.SinceLemmas.{exit_found}
use Rattle.smt_script.proofs.laws.exited_behind_an_exit.Goals as goal

pub returns-clause-found : goal.returns-clause-found
returns-clause-found c = exit_found
