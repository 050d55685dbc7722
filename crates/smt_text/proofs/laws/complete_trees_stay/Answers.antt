use Rattle.smt_text.proofs.ReadingLemmas as faults
use Rattle.smt_text.proofs.laws.complete_trees_stay.Goals as goal

pub returns : goal.returns
returns c =
    record { stay = λ max_depth prefix more xs ys _ a b. faults.complete_trees_stay max_depth prefix more xs ys a b }
