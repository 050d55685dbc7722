use Rattle.smt_theory.proofs.WideLemmas.{taken_wide}
use Rattle.smt_theory.proofs.laws.names.wide_takes_the_logics_of_base.Goals as goal

pub returns : goal.returns
returns c = taken_wide
