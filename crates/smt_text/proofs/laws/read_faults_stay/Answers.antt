use Rattle.smt_text.proofs.ReadingLemmas as faults
use Rattle.smt_text.proofs.laws.read_faults_stay.Goals as goal

pub returns : goal.returns
returns c = record { stay = faults.read_faults_stay }
