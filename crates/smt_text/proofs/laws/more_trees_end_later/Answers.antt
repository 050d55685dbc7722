use Rattle.smt_text.proofs.OrderLemmas.{later_end}
use Rattle.smt_text.proofs.laws.more_trees_end_later.Goals as goal

pub returns : goal.returns
returns c = record { later = later_end }
