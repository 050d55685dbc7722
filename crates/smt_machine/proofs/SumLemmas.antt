-- Sums of costs that stop at the greatest number, and costs that are kept one behind another.
use Rattle.std.proofs.Common.{◌≡◌, ℕ, zero, suc, ◌+◌, ◌-◌, ◌^◌, ◌<◌, ◌≤◌, List, [], ◌∷◌, ◌++◌, length, map, min, take}
use Rattle.std.proofs.Common.{slice_get, slice_index_or, Option, Some, None, option_map, refl, ap, sym, ◌∙◌}
use Rattle.std.proofs.Common.{arith, length-append}
use Rattle.std.proofs.Math.Seq.{take-suc}
use Rattle.std.proofs.lemmas.List.{length-map, map-append}
use Rattle.std.proofs.lemmas.Option.{slice_get_past}
use Rattle.std.specs.Prelude.{unwrap_or}
use Rattle.smt_nodes.specs.Node as node
use Rattle.smt_nodes.specs.Node.{Row}
use Rattle.smt_nodes.specs.NodeParts.{NodeParts, parts_of}
use Rattle.smt_nodes.specs.Nodes.{rows_of}
use Rattle.smt_machine.proofs.GivenLemmas.{cost_law}
use Rattle.smt_machine.specs.Costs.{AreCosts, around_at, capped, cost, first_cost, last_cost, node_cost}
use Rattle.smt_machine.specs.Costs.{part_cost, parts_cost}
use Rattle.smt_machine.specs.Internal.Parts.{elements_at}
use Rattle.smt_machine.specs.Internal.Sums.{AreKept, made_cost}
use Rattle.smt_machine.specs.Nodes.{Node}
use Rattle.smt_machine.specs.Tables.{arounds_of, elements_of, model_count, nodes_of, resolved, script_rows}
use Rattle.smt_machine.specs.Tables.{unnamed}
use Rattle.smt_machine.specs.declared.tables.Place.{Place}
use Rattle.smt_machine.specs.declared.tables.Tables.{Tables}

parts_cost-last : (n : ℕ) (c : ℕ → ℕ) (js : List ℕ) (j : ℕ)
    → parts_cost n c (js ++ j ∷ []) ≡ parts_cost n c js + part_cost n c j
parts_cost-last n c [] j = omega arith
parts_cost-last n c (k ∷ js) j = let rest = parts_cost-last n c js j in omega (arith, rest)

pub capped_sum : (a b x y sum : ℕ) → x ≡ capped a → y ≡ capped b → sum ≡ min (x + y) (2 ^ 64 - 1)
    → sum ≡ capped (a + b)
capped_sum a b x y sum is at both = omega (arith, is, at, both)

-- one more part
pub sum_next : (n : ℕ) (c f : ℕ → ℕ) (ids : List ℕ) (k id before part after : ℕ) → k < length ids
    → id ≡ slice_index_or ids k id
    → before ≡ capped (parts_cost n c (map f (take k ids))) → part ≡ capped (part_cost n c (f id))
    → after ≡ min (before + part) (2 ^ 64 - 1)
    → after ≡ capped (parts_cost n c (map f (take (k + 1) ids)))
sum_next n c f ids k id before part after within at so_far here both =
    let next : k + 1 ≡ suc k = omega arith in
    let longer : map f (take (k + 1) ids) ≡ map f (take k ids) ++ f id ∷ [] =
    ap (λ m. map f (take m ids)) next ∙ ap (map f) (take-suc ids k id within)
    ∙ map-append f (take k ids) (slice_index_or ids k id ∷ [])
    ∙ ap (λ j. map f (take k ids) ++ f j ∷ []) (sym at) in
    capped_sum (parts_cost n c (map f (take k ids))) (part_cost n c (f id)) before part after so_far here both
    ∙ ap capped (sym (ap (parts_cost n c) longer ∙ parts_cost-last n c (map f (take k ids)) (f id)))

-- what a node costs is what its parts cost, and the body that it names
parts_counted : (i : ℕ) (c : ℕ → ℕ) (at : Place) (n : node.Node)
    → made_cost i c at (parts_of n)
    ≡ first_cost i c (Some (resolved (elements_at at) at.shift at.bodies.now at.declared.now n))
    + last_cost i c (Some (resolved (elements_at at) at.shift at.bodies.now at.declared.now n))
parts_counted i c at (node.Literal kind digits) = refl
parts_counted i c at (node.Element name) = refl
parts_counted i c at (node.Slot place) = refl
parts_counted i c at (node.Apply op args) = omega arith
parts_counted i c at (node.Declared place args) = refl
parts_counted i c at (node.Defined place args) = refl
parts_counted i c at (node.Let values body) = refl

-- one node, by its parts and the annotations round it
pub node_counted : (i : ℕ) (c : ℕ → ℕ) (at : Place) (row : Option Row) (parts : NodeParts)
    (around first both sum : ℕ) → Some parts ≡ option_map (λ (r : Row). parts_of r.node) row
    → first ≡ min (1 + around) (2 ^ 64 - 1) → both ≡ capped (made_cost i c at parts)
    → sum ≡ min (first + both) (2 ^ 64 - 1)
    → sum ≡ capped (node_cost i c around
    (option_map (λ (r : Row). resolved (elements_at at) at.shift at.bodies.now at.declared.now r.node) row))
node_counted i c at None parts around first both sum is one last all = cc
node_counted i c at (Some row) parts around first both sum is one last all =
    let here : parts ≡ parts_of row.node = cc in
    let made : made_cost i c at parts
    ≡ first_cost i c (Some (resolved (elements_at at) at.shift at.bodies.now at.declared.now row.node))
    + last_cost i c (Some (resolved (elements_at at) at.shift at.bodies.now at.declared.now row.node)) =
    ap (made_cost i c at) here ∙ parts_counted i c at row.node in
    omega (arith, one, last, all, made)

last_at : (xs : List ℕ) (x j k n : ℕ) → n ≡ length xs → slice_get (xs ++ x ∷ []) j ≡ Some k
    → (c : ℕ → ℕ) → ((i m : ℕ) → slice_get xs i ≡ Some m → m ≡ c i) → x ≡ c n → k ≡ c j
last_at [] x zero k n is at c each last = let here : x ≡ k = cc in sym here ∙ last ∙ ap c is
last_at [] x (suc j) k n is at c each last = cc
last_at (y ∷ xs) x zero k n is at c each last = each zero k at
last_at (y ∷ xs) x (suc j) k zero is at c each last = cc
last_at (y ∷ xs) x (suc j) k (suc n) is at c each last =
    last_at xs x j k n (omega (arith, is)) at (λ i. c (suc i)) (λ i m here. each (suc i) m here) last

-- one more node
-- the cost of the next node
pub next_cost : (nodes : List Node) (arounds kept : List ℕ) (number around v : ℕ) (node : Option Node)
    → length kept ≡ number → around ≡ around_at arounds number → node ≡ slice_get nodes number
    → v ≡ capped (node_cost (length kept) (cost nodes arounds) around node) → v ≡ capped (cost nodes arounds number)
next_cost nodes arounds kept number around v node count annotated at is =
    let c : ℕ → ℕ = cost nodes arounds in
    is ∙ ap (λ n. capped (node_cost n c around node)) count
    ∙ ap (λ a. capped (node_cost number c a node)) annotated
    ∙ ap (λ o. capped (node_cost number c (around_at arounds number) o)) at
    ∙ ap capped (sym (cost_law nodes arounds number))

pub kept_next : (nodes : List Node) (arounds kept more : List ℕ) (number around v : ℕ) (node : Option Node)
    → AreKept (cost nodes arounds) kept → length kept ≡ number
    → around ≡ around_at arounds number → node ≡ slice_get nodes number
    → v ≡ capped (node_cost (length kept) (cost nodes arounds) around node) → more ≡ kept ++ v ∷ []
    → AreKept (cost nodes arounds) more
kept_next nodes arounds kept more number around v node each count annotated at is all =
    let c : ℕ → ℕ = cost nodes arounds in
    let value = next_cost nodes arounds kept number around v node count annotated at is in
    λ j k here. last_at kept v j k number (sym count) (ap (λ xs. slice_get xs j) (sym all) ∙ here)
    (λ i. capped (c i)) each value

-- ---- past the last node

-- where no number stands, there is no node
pub past_cost : (nodes : List Node) (arounds numbers : List ℕ) (i j : ℕ) → AreCosts nodes arounds numbers
    → length arounds ≡ length nodes → length numbers ≤ j → j ≤ i → cost nodes arounds i ≡ 1
past_cost nodes arounds numbers i j costs same past above =
    let counted = costs.counted in
    cost_law nodes arounds i
    ∙ ap (λ o. node_cost i (cost nodes arounds) (unwrap_or o 0) (slice_get nodes i))
    (slice_get_past arounds i (omega (arith, same, counted, past, above)))
    ∙ ap (node_cost i (cost nodes arounds) 0) (slice_get_past nodes i (omega (arith, counted, past, above)))

-- as many annotations as nodes
pub arounds_counted : (tables : Tables) → length (arounds_of tables) ≡ length (nodes_of tables)
arounds_counted tables =
    let model = rows_of tables.model.now in
    let script = script_rows tables in
    let a : ℕ = length (map (λ (row : Row). row.around) model) in
    let left = length-append (map (λ (row : Row). row.around) model) (map (λ (row : Row). row.around) script) in
    let right = length-append
    (map (λ (row : Row). resolved (elements_of tables) 0 tables.model_bodies.now [] row.node) model)
    (map (λ (row : Row). resolved unnamed (model_count tables) tables.script_bodies.now tables.declared.now row.node)
    script) in
    omega (
      arith,
      left,
      right,
      length-map model (λ (row : Row). row.around),
      length-map script (λ (row : Row). row.around),
      length-map model (λ (row : Row). resolved (elements_of tables) 0 tables.model_bodies.now [] row.node),
      length-map script
          (λ (row : Row). resolved unnamed (model_count tables) tables.script_bodies.now tables.declared.now row.node),
    )
