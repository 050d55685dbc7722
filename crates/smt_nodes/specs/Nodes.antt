-- What a contract sees of a table of nodes.
use Rattle.std.specs.Prelude.{ℕ, List}
use Rattle.smt_nodes.specs.Internal.Annotations.{annotated_of}
use Rattle.smt_nodes.specs.Internal.Lists.{lists_of}
use Rattle.smt_nodes.specs.Internal.Rows.{views}
use Rattle.smt_nodes.specs.Node.{Row}
use Rattle.smt_nodes.specs.declared.table.Nodes.{Nodes}

-- the rows, in the order in which they came: the number of a row is its place, from 0
unfoldable pub rows_of : Nodes → List Row
rows_of nodes = views nodes.rows.items (lists_of nodes.tables) (annotated_of nodes.tables)

-- the names of elements of declared sorts, each once, in the order in which they came; none is ever removed
unfoldable pub names_of : Nodes → List (List ℕ)
names_of nodes = nodes.names
