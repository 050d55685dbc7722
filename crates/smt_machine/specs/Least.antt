-- How many nodes are evaluated at least for the value of a node, where each annotation round a node counts as
-- one: the arguments, but of a choice the condition alone; and of a `let` the body too. The body of a name
-- does not count, since its value may be kept.
use Rattle.std.specs.Prelude.{ℕ, ◌+◌, List, [], ◌∷◌, Bool, true, false, Option, Some, None, length, nat_lt}
use Rattle.std.specs.Prelude.{slice_get, if◌then◌else◌}
use Rattle.smt_theory.specs.declared.op.CoreOp.TheVariants.{Ite}
use Rattle.smt_theory.specs.declared.op.Op.{Op}
use Rattle.smt_theory.specs.declared.op.Op.TheVariants.{Core}
use Rattle.smt_machine.specs.Costs.{around_at}
use Rattle.smt_machine.specs.Given.{fill}
use Rattle.smt_machine.specs.Nodes.{Node, Known, Slot, Apply, Call, Let}

abbrev pub part_least : ℕ → (ℕ → ℕ) → ℕ → ℕ
part_least i k j = if nat_lt j i then k j else 0

abbrev pub parts_least : ℕ → (ℕ → ℕ) → List ℕ → ℕ
parts_least i k [] = 0
parts_least i k (j ∷ js) = part_least i k j + parts_least i k js

-- of the first of these
abbrev pub first_least : ℕ → (ℕ → ℕ) → List ℕ → ℕ
first_least i k [] = 0
first_least i k (j ∷ js) = part_least i k j

abbrev pub is_choice : Op → Bool
is_choice (Core Ite) = true
is_choice _ = false

-- of the arguments of node i, where it is a choice or is not
abbrev pub arguments_least : ℕ → (ℕ → ℕ) → Bool → List ℕ → ℕ
arguments_least i k choice args = if choice then first_least i k args else parts_least i k args

-- of what is in node i, where k is that of the nodes below it
abbrev pub inner_least : ℕ → (ℕ → ℕ) → Option Node → ℕ
inner_least i k None = 0
inner_least i k (Some (Known v)) = 0
inner_least i k (Some (Slot place)) = 0
inner_least i k (Some (Apply op args)) = arguments_least i k (is_choice op) args
inner_least i k (Some (Call body args)) = parts_least i k args
inner_least i k (Some (Let values body)) = parts_least i k values + part_least i k body

-- of node i, which has these annotations round it
abbrev pub node_least : ℕ → (ℕ → ℕ) → ℕ → Option Node → ℕ
node_least i k around node = 1 + around + inner_least i k node

-- of the node of each number
unfoldable pub least : (nodes : List Node) → (arounds : List ℕ) → ℕ → ℕ
least nodes arounds =
    fill (λ i. 1 + around_at arounds i)
    (λ k i. node_least i k (around_at arounds i) (slice_get nodes i))
    (length nodes)
