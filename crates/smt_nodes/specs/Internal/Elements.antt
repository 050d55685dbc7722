-- The numbers of elements, as rows hold them.
use Rattle.std.specs.Prelude.{◌≡◌, ℕ, List, Option, Some, None, slice_get}
use Rattle.smt_nodes.specs.Elements.{element_number}
use Rattle.smt_nodes.specs.Internal.Annotations.{inner}
use Rattle.smt_nodes.specs.Internal.Lists.{Lists, node_of}
use Rattle.smt_nodes.specs.Node as spec
use Rattle.smt_nodes.specs.declared.annotated.AnnotatedNode.{AnnotatedNode}
use Rattle.smt_nodes.specs.declared.rows.Stored.{Stored}
use Rattle.smt_nodes.specs.declared.rows.Stored.TheVariants.{Element}
use Rattle.smt_nodes.specs.declared.rows.StoredRow.{StoredRow}

-- the number that is held of an element; none of another node
abbrev pub held_element : Stored → Option ℕ
held_element (Element n number) = Some number
held_element _ = None

-- a number, if the node is an element
abbrev pub element_if : spec.Node → ℕ → Option ℕ
element_if (spec.Element name) number = Some number
element_if _ number = None

-- each row of an element holds the number of its name
abbrev pub AreNamed : List StoredRow → Lists → List (List ℕ) → List AnnotatedNode → Type 0
AreNamed rows t names nodes = (i : ℕ) (r : StoredRow) → slice_get rows i ≡ Some r
    → held_element (inner nodes r.stored) ≡ element_number names (node_of t r.ends (inner nodes r.stored))
