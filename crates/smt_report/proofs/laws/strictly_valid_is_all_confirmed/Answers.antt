use Rattle.smt_report.proofs.CountLemmas.{all_confirmed}
use Rattle.smt_report.proofs.laws.strictly_valid_is_all_confirmed.Goals as goal

pub returns-clause-some : goal.returns-clause-some
returns-clause-some c = λ lines zero. (all_confirmed lines zero).some

pub returns-clause-unchecked : goal.returns-clause-unchecked
returns-clause-unchecked c = λ lines zero. (all_confirmed lines zero).unchecked

pub returns-clause-undecided : goal.returns-clause-undecided
returns-clause-undecided c = λ lines zero. (all_confirmed lines zero).undecided

pub returns-clause-refuted : goal.returns-clause-refuted
returns-clause-refuted c = λ lines zero. (all_confirmed lines zero).refuted

pub returns-clause-fault : goal.returns-clause-fault
returns-clause-fault c = λ lines zero. (all_confirmed lines zero).fault
