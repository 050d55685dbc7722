-- The numbers of terms among the nodes of a model and a script.
use Rattle.std.proofs.Common.{◌≡◌, ◌<◌, ◌≤◌, ℕ, ◌+◌, [], List, arith, length, length-append, map, vec_len, Vec, Global}
use Rattle.std.proofs.lemmas.List.{length-map}
use Rattle.smt_nodes.specs.Node.{Row}
use Rattle.smt_trees.specs.Sexp.{Sexp}
use Rattle.smt_machine.specs.Costs.{AreCosts, capped}
use Rattle.smt_values.specs.Element.{Naming}
use Rattle.smt_machine.specs.Tables.{resolved, unnamed}
use Rattle.smt_terms.specs.Denotes.{Denotes, Table}
use Rattle.smt_eval.proofs.StructureNodeLemmas.{denotes_within}
use Rattle.smt_eval.specs.NodeValues.{arounds_over, nodes_over}

nodes_counted : (elements : Naming) (model script : Table) (declared : List ℕ)
    → length (nodes_over elements model script declared) ≡ length model.rows + length script.rows
nodes_counted elements model script declared =
    let all = length-append (map (λ (row : Row). resolved elements 0 model.bodies [] row.node) model.rows)
    (map (λ (row : Row). resolved unnamed (length model.rows) script.bodies declared row.node) script.rows) in
    let left = length-map model.rows (λ (row : Row). resolved elements 0 model.bodies [] row.node) in
    let right = length-map script.rows (λ (row : Row). resolved unnamed (length model.rows) script.bodies declared row.node) in
    omega (arith, all, left, right)

-- a term of the script has a number below the count of the costs
pub term_within : (elements : Naming) (model script : Table) (declared costs : List ℕ) (term : ℕ) (t : Sexp)
    → AreCosts (nodes_over elements model script declared) (arounds_over model script) costs
    → Denotes script [] 0 0 term t → length model.rows + term < length costs
term_within elements model script declared costs term t are denotes =
    let counted = are.counted in
    let all = nodes_counted elements model script declared in
    let within = denotes_within script [] 0 0 term t denotes in
    omega (arith, counted, all, within)

-- a number below the length of a vector is exact
pub exact : (v : Vec ℕ Global) (x root : ℕ) → root ≡ capped x → x < length v.items → root ≡ x
exact v x root is within = omega (arith, is, within)

pub past : (v : Vec ℕ Global) (x count root : ℕ) → count ≡ vec_len v → root ≡ capped x → x < length v.items
    → count ≤ root → count ≡ x
past v x count root counted is within above = omega (arith, counted, is, within, above)
