-- Costs that are kept by the numbers of nodes, and what the parts of a node cost.
use Rattle.std.specs.Prelude.{◌≡◌, ℕ, ◌+◌, List, Option, Some, option_map, slice_get}
use Rattle.smt_nodes.specs.NodeParts.{NodeParts, Args, Declared, Defined, Let}
use Rattle.smt_machine.specs.Costs.{capped, first_cost, last_cost, part_cost, parts_cost}
use Rattle.smt_machine.specs.Tables.{call, shifted}
use Rattle.smt_machine.specs.declared.tables.Place.{Place}

-- each of these numbers is the cost at its place, as code counts it
abbrev pub AreKept : (ℕ → ℕ) → List ℕ → Type 0
AreKept c kept = (j n : ℕ) → slice_get kept j ≡ Some n → n ≡ capped (c j)

-- what a body costs with arguments, if there is one
abbrev pub call_cost : ℕ → (ℕ → ℕ) → Option ℕ → List ℕ → ℕ
call_cost i c body args = first_cost i c (Some (call body args)) + last_cost i c (Some (call body args))

-- what the parts of node i cost, and the body that it names, where it stands at this place
abbrev pub made_cost : ℕ → (ℕ → ℕ) → Place → NodeParts → ℕ
made_cost i c at (Args args) = parts_cost i c (shifted at.shift args)
made_cost i c at (Declared place args) =
    call_cost i c (slice_get at.declared.now place) (shifted at.shift args)
made_cost i c at (Defined place args) =
    call_cost i c (option_map (λ j. at.shift + j) (slice_get at.bodies.now place)) (shifted at.shift args)
made_cost i c at (Let values body) =
    parts_cost i c (shifted at.shift values) + part_cost i c (at.shift + body)
