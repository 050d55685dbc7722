use Rattle.std.proofs.Common.{ap}
use Rattle.smt_nodes.specs.Internal.Annotations.{annotated_of}
use Rattle.smt_nodes.specs.Internal.Lists.{lists_of}
use Rattle.smt_nodes.specs.Internal.Rows.{views}
use Rattle.smt_nodes.specs.Nodes.{names_of, rows_of}
use Rattle.smt_nodes.proofs.table.Nodes.new.Goals as goal

pub returns-clause-rows : goal.returns-clause-rows
unfolding rows_of
returns-clause-rows c = ap (λ rows. views rows (lists_of c.new-2.result) (annotated_of c.new-2.result)) c.new.ensures.items

pub returns-clause-names : goal.returns-clause-names
unfolding names_of
returns-clause-names c = c.new-3.ensures
