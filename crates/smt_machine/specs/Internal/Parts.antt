-- Parts of a node by their numbers in both tables, and a fetched node as a contract sees it.
use Rattle.std.specs.Prelude.{ℕ, ◌+◌, List, Option, map, option_map, slice_get, unwrap_or}
use Rattle.std.specs.Prelude.{if◌then◌else◌}
use Rattle.smt_nodes.specs.Node as node
use Rattle.smt_nodes.specs.NodeParts.{NodeParts, parts_of}
use Rattle.smt_nodes.specs.NodeView.{node_view}
use Rattle.smt_nodes.specs.Nodes.{names_of, rows_of}
use Rattle.smt_values.specs.ElementNumbers.{numbered_in}
use Rattle.smt_nodes.specs.declared.node.Node.{Node}
use Rattle.smt_machine.specs.Nodes as machine
use Rattle.smt_values.specs.Element.{Naming}
use Rattle.smt_machine.specs.Tables.{resolved, unnamed}
use Rattle.smt_machine.specs.declared.parts.Part.{Part}
use Rattle.smt_machine.specs.declared.parts.Parts.{Parts}
use Rattle.smt_machine.specs.declared.tables.Place.{Place}

abbrev pub number_of : Part → ℕ
number_of p = p.shift + p.id

abbrev pub numbers_of : Parts → List ℕ
numbers_of p = map (λ id. p.shift + id) p.ids.now

-- what is known of elements at a place
abbrev pub elements_at : Place → Naming
elements_at at = if at.named then numbered_in (names_of at.nodes.now) else unnamed

-- what the node that was fetched at a place is
abbrev pub meaning : Place → Node → machine.Node
meaning at node = resolved (elements_at at) at.shift at.bodies.now at.declared.now (node_view node)

-- what the node at a place is, if one is there
abbrev pub found : Place → Option machine.Node
found at = option_map (λ row. resolved (elements_at at) at.shift at.bodies.now at.declared.now row.node)
    (slice_get (rows_of at.nodes.now) at.number)

-- the same before its names and literals are looked at
abbrev pub found_node : Place → Option node.Node
found_node at = option_map (λ row. row.node) (slice_get (rows_of at.nodes.now) at.number)

-- the parts of the node at a place, if one is there
abbrev pub found_parts : Place → Option NodeParts
found_parts at = option_map (λ row. parts_of row.node) (slice_get (rows_of at.nodes.now) at.number)

-- how many annotations stand round it
abbrev pub found_around : Place → ℕ
found_around at = unwrap_or (option_map (λ row. row.around) (slice_get (rows_of at.nodes.now) at.number)) 0
