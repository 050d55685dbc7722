-- The numbers of elements of declared sorts: the places of their names among the names of elements.
use Rattle.std.specs.Prelude.{ℕ, List, Option, Some, None}
use Rattle.smt_names.specs.Places.{place_of, with_name}
use Rattle.smt_nodes.specs.Node.{Node, Element}

-- the number of an element, where these are the names of elements
abbrev pub element_number : List (List ℕ) → Node → Option ℕ
element_number names (Element name) = place_of names name
element_number names _ = None

abbrev pub element_in : List (List ℕ) → Option Node → Option ℕ
element_in names None = None
element_in names (Some node) = element_number names node

-- the names of elements with the name of a node, if that is an element
abbrev pub names_with : List (List ℕ) → Node → List (List ℕ)
names_with names (Element name) = with_name names name
names_with names _ = names
