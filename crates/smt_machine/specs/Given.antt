-- What is known of each node of a table: the table is filled from below.
use Rattle.std.specs.Prelude.{ℕ, zero, suc, ◌==◌, List, None, length, slice_get, if◌then◌else◌}
use Rattle.smt_machine.specs.Nodes.{Giving, Node, node_value}

-- n entries, each made of those below it; the others are as in `base`
abbrev pub fill : {A : Type 0} → (ℕ → A) → ((ℕ → A) → ℕ → A) → ℕ → ℕ → A
fill base make zero i = base i
fill base make (suc n) i = if i == n then make (fill base make n) n else fill base make n i

abbrev pub open_everywhere : Giving
open_everywhere i frame = None

-- what is known of the node of each number, in each frame
unfoldable pub given : List Node → Giving
given nodes =
    fill open_everywhere (λ g i frame. node_value i g frame (slice_get nodes i)) (length nodes)
