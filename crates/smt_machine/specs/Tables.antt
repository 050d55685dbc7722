-- The nodes of a model and of a script in one list, where the script's stand behind the model's and names
-- lead to the bodies of their definitions.
use Rattle.std.specs.Prelude.{ℕ, ◌+◌, List, [], ◌++◌, Option, Some, None, length, map, option_map, slice_get}
use Rattle.smt_values.specs.Element.{Naming}
use Rattle.smt_values.specs.ElementNumbers.{numbered_in}
use Rattle.smt_values.specs.Literals.{literal_element}
use Rattle.smt_arrays.specs.Element.{Plain}
use Rattle.smt_machine.specs.Costs.{cost}
use Rattle.smt_machine.specs.Least.{least}
use Rattle.smt_machine.specs.Nodes as machine
use Rattle.smt_nodes.specs.Node.{Node, Literal, Element, Slot, Apply, Declared, Defined, Let, Row}
use Rattle.smt_nodes.specs.Nodes.{names_of, rows_of}
use Rattle.smt_machine.specs.declared.tables.Tables.{Tables}

-- numbers of a table whose nodes stand behind so many others
abbrev pub shifted : ℕ → List ℕ → List ℕ
shifted n js = map (λ j. n + j) js

-- the body at a place with arguments; open where none is there
abbrev pub call : Option ℕ → List ℕ → machine.Node
call None args = machine.Known None
call (Some body) args = machine.Call body args

-- nothing is known of elements
abbrev pub unnamed : Naming
unnamed name = None

-- A node of a table whose nodes stand behind n others, where this is known of elements. A defined name's body is a
-- node of the same table, a declared name's is one from the start.
abbrev pub resolved : Naming → ℕ → (bodies declared : List ℕ) → Node → machine.Node
resolved elements n bodies declared (Literal kind digits) =
    machine.Known (option_map Plain (literal_element kind digits))
resolved elements n bodies declared (Element name) = machine.Known (option_map Plain (elements name))
resolved elements n bodies declared (Slot place) = machine.Slot place
resolved elements n bodies declared (Apply op args) = machine.Apply op (shifted n args)
resolved elements n bodies declared (Declared place args) = call (slice_get declared place) (shifted n args)
resolved elements n bodies declared (Defined place args) =
    call (option_map (λ j. n + j) (slice_get bodies place)) (shifted n args)
resolved elements n bodies declared (Let values body) = machine.Let (shifted n values) (n + body)

-- the elements of the model's items, each by the number that its name has there
abbrev pub elements_of : Tables → Naming
elements_of tables = numbered_in (names_of tables.model.now)

-- how many nodes the model has
abbrev pub model_count : Tables → ℕ
model_count tables = length (rows_of tables.model.now)

-- the nodes of the script, with the transient ones behind
abbrev pub script_rows : Tables → List Row
script_rows tables = rows_of tables.script.now ++ rows_of tables.transient.now

-- both; a term of a script names no element
abbrev pub nodes_of : Tables → List machine.Node
nodes_of tables =
    map (λ row. resolved (elements_of tables) 0 tables.model_bodies.now [] row.node) (rows_of tables.model.now)
    ++ map (λ row. resolved unnamed (model_count tables) tables.script_bodies.now tables.declared.now row.node)
    (script_rows tables)

-- how many annotations stand round each of these nodes
abbrev pub arounds_of : Tables → List ℕ
arounds_of tables =
    map (λ row. row.around) (rows_of tables.model.now) ++ map (λ row. row.around) (script_rows tables)

-- what a term of the script costs, by its number there
abbrev pub term_cost : Tables → ℕ → ℕ
term_cost tables term = cost (nodes_of tables) (arounds_of tables) (model_count tables + term)

-- how many nodes are evaluated for it at least
abbrev pub term_least : Tables → ℕ → ℕ
term_least tables term = least (nodes_of tables) (arounds_of tables) (model_count tables + term)
