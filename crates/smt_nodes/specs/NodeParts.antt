-- The parts of nodes. Nothing here says what is made of them.
use Rattle.std.specs.Prelude.{ℕ, List, []}
use Rattle.smt_nodes.specs.Node as node

pub data NodeParts : Type 0 where
  -- of an operator; none of a literal, an element and a variable
  Args : (args : List ℕ) → NodeParts
  -- of a name, by its place among the declared names or among the definitions, from 0
  Declared : (place : ℕ) → (args : List ℕ) → NodeParts
  Defined : (place : ℕ) → (args : List ℕ) → NodeParts
  Let : (values : List ℕ) → (body : ℕ) → NodeParts

abbrev pub parts_of : node.Node → NodeParts
parts_of (node.Literal kind digits) = Args []
parts_of (node.Element name) = Args []
parts_of (node.Slot place) = Args []
parts_of (node.Apply op args) = Args args
parts_of (node.Declared place args) = Declared place args
parts_of (node.Defined place args) = Defined place args
parts_of (node.Let values body) = Let values body
