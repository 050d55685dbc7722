-- The nodes of a model and of a script together, and what has to hold for a node to have the value of the
-- term that it stands for.
use Rattle.std.specs.Prelude.{◌≡◌, ℕ, List, [], ◌++◌, Some, length, map, slice_get}
use Rattle.smt_machine.specs.Nodes.{Node}
use Rattle.smt_values.specs.Element.{Naming}
use Rattle.smt_machine.specs.Tables.{resolved, unnamed}
use Rattle.smt_terms.specs.Denotes.{Table}
use Rattle.smt_terms.specs.Signature.{Entry, Signature, declared_among}

-- the nodes of a model, and behind them those of a script, whose declared names lead to these nodes, where this is
-- known of the elements of declared sorts; a term of a script names none
abbrev pub nodes_over : (elements : Naming) → (model script : Table) → (declared : List ℕ) → List Node
nodes_over elements model script declared =
    map (λ row. resolved elements 0 model.bodies [] row.node) model.rows
    ++ map (λ row. resolved unnamed (length model.rows) script.bodies declared row.node) script.rows

-- how many annotations stand round each of these nodes
abbrev pub arounds_over : (model script : Table) → List ℕ
arounds_over model script = map (λ row. row.around) model.rows ++ map (λ row. row.around) script.rows

-- the k-th of these nodes is the body, among these, of a definition of the declared name with as many
-- parameters
pub record IsGivenBody (declared : List ℕ) (definitions : List Entry) (bodies : List ℕ) (k : ℕ)
    (e : Entry) : Type 0 where
  pub place : ℕ
  pub definition : Entry
  pub body : ℕ
  pub defined : slice_get definitions place ≡ Some definition
  pub name : definition.name ≡ e.name
  pub counted : length definition.parameters ≡ length e.parameters
  pub node : slice_get bodies place ≡ Some body
  pub listed : slice_get declared k ≡ Some body

-- for each declared name, in order, the node that is the body of the definition that the model gives to it
abbrev pub GivesBodies : (declared : List ℕ) → (script definitions : Signature) → (bodies : List ℕ) → Type 0
GivesBodies declared script definitions bodies = (k : ℕ) (e : Entry)
    → slice_get (declared_among script.entries) k ≡ Some e
    → IsGivenBody declared definitions.entries bodies k e
