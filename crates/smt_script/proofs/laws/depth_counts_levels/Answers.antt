use Rattle.smt_script.proofs.SinceLemmas.{levels_since}
use Rattle.smt_script.proofs.laws.depth_counts_levels.Goals as goal

pub returns-clause-sum : goal.returns-clause-sum
returns-clause-sum c = levels_since
