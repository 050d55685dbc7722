use Rattle.std.proofs.Common.{rules}
use Rattle.smt_forms.proofs.identifier.are_indexes.Goals as goal

pub loop-tree-preserved : goal.loop-tree-preserved
loop-tree-preserved c = search rules
