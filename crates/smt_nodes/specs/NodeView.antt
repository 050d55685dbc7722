-- Nodes as the code has them.
use Rattle.smt_nodes.specs.Node as spec
use Rattle.smt_nodes.specs.declared.node.Node.{Node}
use Rattle.smt_nodes.specs.declared.node.Node.TheVariants.{Literal, Element, Slot, Apply, Declared}
use Rattle.smt_nodes.specs.declared.node.Node.TheVariants.{Defined, Let}

abbrev pub node_view : Node → spec.Node
node_view (Literal kind digits) = spec.Literal kind digits.now
node_view (Element name) = spec.Element name.now
node_view (Slot place) = spec.Slot place
node_view (Apply op args) = spec.Apply op args.now
node_view (Declared place args) = spec.Declared place args.now
node_view (Defined place args) = spec.Defined place args.now
node_view (Let values body) = spec.Let values.now body
