use Rattle.smt_text.proofs.BeginningLemmas as beginnings
use Rattle.smt_text.proofs.laws.read_trees_stay.Goals as goal

pub returns : goal.returns
returns c = record { stay = beginnings.read_trees_stay }
