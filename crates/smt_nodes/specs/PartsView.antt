-- The parts of nodes as the code has them, and what the code has beside them.
use Rattle.std.specs.Prelude.{◌≡◌, [], Option, Some}
use Rattle.smt_theory.specs.PlainOp.{op_of_plain}
use Rattle.smt_nodes.specs.Node as node
use Rattle.smt_nodes.specs.NodeParts as spec
use Rattle.smt_nodes.specs.declared.node.NodeParts.{NodeParts}
use Rattle.smt_nodes.specs.declared.node.NodeParts.TheVariants.{Literal, Slot, Plain, Args, Declared, Defined, Let}

abbrev pub parts_view : NodeParts → spec.NodeParts
parts_view (Literal kind digits) = spec.Args []
parts_view (Slot place) = spec.Args []
parts_view (Plain op args) = spec.Args args.now
parts_view (Args args) = spec.Args args.now
parts_view (Declared place args) = spec.Declared place args.now
parts_view (Defined place args) = spec.Defined place args.now
parts_view (Let values body) = spec.Let values.now body

-- a literal, a variable and an operator that holds no number are whole: this is the node
abbrev pub IsWhole : NodeParts → Option node.Node → Type 0
IsWhole (Literal kind digits) seen = seen ≡ Some (node.Literal kind digits.now)
IsWhole (Slot place) seen = seen ≡ Some (node.Slot place)
IsWhole (Plain op args) seen = seen ≡ Some (node.Apply (op_of_plain op) args.now)
IsWhole _ seen = Unit {0}
