use Rattle.smt_text.proofs.ReadingLemmas as faults
use Rattle.smt_text.proofs.laws.one_forest.Goals as goal

pub returns : goal.returns
returns c = record { one = faults.one_forest }
