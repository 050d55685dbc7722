use Rattle.smt_nodes.specs.Internal.Annotations.{annotated_of}
use Rattle.smt_nodes.specs.Internal.Lists.{lists_of}
use Rattle.smt_nodes.specs.Nodes.{names_of, rows_of}
use Rattle.smt_nodes.proofs.ElementLemmas.{row_has_number}
use Rattle.smt_nodes.proofs.laws.elements_have_numbers.Goals as goal

pub returns : goal.returns
unfolding rows_of names_of
returns c nodes k row name at is =
    row_has_number nodes.rows.items (lists_of nodes.tables) nodes.names (annotated_of nodes.tables) k row name nodes.named
    at is
