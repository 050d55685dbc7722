-- A node as a walk beside its tree sees it: its parts, the body that it leads to, and its operator.
use Rattle.std.specs.Prelude.{◌≡◌, ℕ, List, [], Option, Some, None, nat_lt, option_and_then}
use Rattle.std.specs.Prelude.{if◌then◌else◌}
use Rattle.smt_theory.specs.declared.op.Op.{Op}
use Rattle.smt_machine.specs.Nodes.{Node, Known, Slot, Apply, Call, Let}
use Rattle.smt_machine.specs.Tables.{shifted}
use Rattle.smt_machine.specs.declared.look.Look.{Look}

-- ---- nodes

-- the parts in the order of the tree: arguments, or the values of a `let`'s variables
abbrev pub parts_of : Option Node → List ℕ
parts_of None = []
parts_of (Some (Known v)) = []
parts_of (Some (Slot k)) = []
parts_of (Some (Apply op args)) = args
parts_of (Some (Call body args)) = args
parts_of (Some (Let values body)) = values

-- the body of the name that is called, or of the `let`
abbrev pub body_of : Option Node → Option ℕ
body_of None = None
body_of (Some (Known v)) = None
body_of (Some (Slot k)) = None
body_of (Some (Apply op args)) = None
body_of (Some (Call body args)) = Some body
body_of (Some (Let values body)) = Some body

-- the operator of a theory that is applied
abbrev pub op_of : Option Node → Option Op
op_of None = None
op_of (Some (Known v)) = None
op_of (Some (Slot k)) = None
op_of (Some (Apply op args)) = Some op
op_of (Some (Call body args)) = None
op_of (Some (Let values body)) = None

-- the number of a part of node i; a part whose number is not below i is open, and is not followed
abbrev pub below : ℕ → ℕ → Option ℕ
below i j = if nat_lt j i then Some j else None

-- ---- what a look shows

abbrev pub number_seen : Look → ℕ
number_seen look = look.number

abbrev pub parts_seen : Look → List ℕ
parts_seen look = shifted look.shift look.ids.now

abbrev pub op_seen : Look → Option Op
op_seen look = look.op

-- it shows the node of this number
pub record Shows (i : ℕ) (node : Option Node) (look : Look) : Type 0 where
  pub number : number_seen look ≡ i
  pub parts : parts_seen look ≡ parts_of node
  pub body : look.body ≡ option_and_then (below i) (body_of node)
  pub op : op_seen look ≡ op_of node
