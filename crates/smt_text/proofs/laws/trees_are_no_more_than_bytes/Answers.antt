use Rattle.smt_text.proofs.BeginningLemmas.{few_trees}
use Rattle.smt_text.proofs.laws.trees_are_no_more_than_bytes.Goals as goal

pub returns : goal.returns
returns c = record { few = few_trees }
