-- How many nodes are evaluated at most for the value of a node, where each annotation round a node counts as
-- one: the parts, whichever branch is taken, and the body of each name at each of its uses.
use Rattle.std.specs.Prelude.{◌≡◌, ℕ, zero, suc, ◌+◌, ◌-◌, ◌^◌, List, [], ◌∷◌, Option, Some, None, length, max, min}
use Rattle.std.specs.Prelude.{nat_le, nat_lt, slice_get, unwrap_or, if◌then◌else◌}
use Rattle.smt_machine.specs.Given.{fill}
use Rattle.smt_machine.specs.Nodes.{Node, Known, Slot, Apply, Call, Let}

abbrev pub part_cost : ℕ → (ℕ → ℕ) → ℕ → ℕ
part_cost i c j = if nat_lt j i then c j else 1

abbrev pub parts_cost : ℕ → (ℕ → ℕ) → List ℕ → ℕ
parts_cost i c [] = 0
parts_cost i c (j ∷ js) = part_cost i c j + parts_cost i c js

-- of the parts of node i that are evaluated first
abbrev pub first_cost : ℕ → (ℕ → ℕ) → Option Node → ℕ
first_cost i c None = 0
first_cost i c (Some (Known v)) = 0
first_cost i c (Some (Slot k)) = 0
first_cost i c (Some (Apply op args)) = parts_cost i c args
first_cost i c (Some (Call body args)) = parts_cost i c args
first_cost i c (Some (Let values body)) = parts_cost i c values

-- of the part that is evaluated last
abbrev pub last_cost : ℕ → (ℕ → ℕ) → Option Node → ℕ
last_cost i c None = 0
last_cost i c (Some (Known v)) = 0
last_cost i c (Some (Slot k)) = 0
last_cost i c (Some (Apply op args)) = 0
last_cost i c (Some (Call body args)) = part_cost i c body
last_cost i c (Some (Let values body)) = part_cost i c body

-- how many annotations stand round node i
abbrev pub around_at : List ℕ → ℕ → ℕ
around_at arounds i = unwrap_or (slice_get arounds i) 0

-- of node i, which has these annotations round it, where c is the cost of those below it
abbrev pub node_cost : ℕ → (ℕ → ℕ) → ℕ → Option Node → ℕ
node_cost i c around node = 1 + around + first_cost i c node + last_cost i c node

-- of the node of each number
unfoldable pub cost : (nodes : List Node) → (arounds : List ℕ) → ℕ → ℕ
cost nodes arounds =
    fill (λ i. 1 + around_at arounds i)
    (λ c i. node_cost i c (around_at arounds i) (slice_get nodes i))
    (length nodes)

-- what code counts to: a cost from here on is this
abbrev pub capped : ℕ → ℕ
capped n = min n (2 ^ 64 - 1)

-- the greatest cost of the first so many nodes, as code counts it
abbrev pub greatest_of : ℕ → (ℕ → ℕ) → ℕ
greatest_of zero c = 0
greatest_of (suc n) c = max (capped (c n)) (greatest_of n c)

-- a cost, if it is no more than a limit
abbrev pub within : ℕ → ℕ → Option ℕ
within limit n = if nat_le n limit then Some n else None

-- these are the costs of all nodes, in order, as code counts them
pub record AreCosts (nodes : List Node) (arounds numbers : List ℕ) : Type 0 where
  pub counted : length numbers ≡ length nodes
  pub each : (i n : ℕ) → slice_get numbers i ≡ Some n → n ≡ capped (cost nodes arounds i)
