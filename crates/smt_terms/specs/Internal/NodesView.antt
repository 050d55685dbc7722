-- What the sort checker adds to a table of nodes.
use Rattle.std.specs.Prelude.{◌≡◌, ◌<◌, ◌≤◌, ℕ, List, [], ◌∷◌, ◌++◌, Bool, false, Option, Result, Some}
use Rattle.std.specs.Prelude.{length, map}
use Rattle.smt_nodes.specs.Node.{Node, Row}
use Rattle.smt_nodes.specs.Nodes.{rows_of}
use Rattle.smt_nodes.specs.declared.table.Nodes.{Nodes}
use Rattle.smt_forms.specs.Identifier.{Identifier}
use Rattle.smt_theory.specs.Operators.{is_plain_operator, op_by}
use Rattle.smt_theory.specs.Words.{look_up}
use Rattle.smt_theory.specs.declared.op.Op.{Op}
use Rattle.smt_theory.specs.declared.op.OpFault.{OpFault}
use Rattle.smt_theory.specs.Sort.{Sort}
use Rattle.smt_trees.specs.Sexp.{Sexp, Sexps}
use Rattle.smt_terms.specs.Denotes.{AreBound, AreDenoted, Denotes, Head, IsLonger, Slots, Table}
use Rattle.smt_terms.specs.Denotes.{applied_node, node_alone, node_of}
use Rattle.smt_terms.specs.Internal.TableView.{AreNamed, IsReady, places_seen, rows_behind, rows_in, slots_seen}
use Rattle.smt_terms.specs.Internal.TableView.{table_in, table_of}
use Rattle.smt_terms.specs.declared.labels.Labels.{Labels}
use Rattle.smt_terms.specs.declared.library.Library.{Library}
use Rattle.smt_terms.specs.declared.library.draft.CheckedTerm.{CheckedTerm}
use Rattle.smt_terms.specs.declared.library.draft.Draft.{Draft}

-- no name in force is a plain operator's
abbrev pub AreFree : Table → Type 0
AreFree t = (x : List ℕ) (head : Head) → look_up t.heads x ≡ Some head → is_plain_operator t.theories x ≡ false

-- where no name is an operator's, and there are as many arguments as sorts, this is the node of an identifier
-- applied to these arguments
abbrev pub IsNodeOf : Library → Identifier → List Sort → List ℕ → Node → Type 0
IsNodeOf library f sorts args node = AreFree (table_of library) → length args ≡ length sorts
    → node_of (table_of library) f args ≡ Some node

-- a node with so many annotations without a label directly round it
abbrev pub row_with : ℕ → Node → Row
row_with around node = record { node = node; around = around }

-- the nodes of the labels that were given
abbrev pub nodes_given : Labels → List ℕ
nodes_given labels = map (λ l. l.node) labels.given.items

-- the nodes of a draft are among those of a later one, and its labels too
abbrev pub GrowsTo : (old new : Draft) → Type 0
GrowsTo old new = (library : Library) → IsLonger (table_in library old) (table_in library new)

-- the answer is this node with so many annotations round it, which is added alone, where the draft's nodes stand
-- behind those of a table
pub record AddsNode (before : Nodes) (old new : Draft) (around : ℕ) (node : Node) (c : CheckedTerm) : Type 0 where
  pub rows : rows_behind before new ≡ rows_behind before old ++ row_with around node ∷ []
  pub number : c.node ≡ length (rows_behind before old)
  pub labels : new.labels ≡ old.labels

-- the answer is the node of an identifier applied to these arguments, which is added alone
pub record AddsApplied (library : Library) (old new : Draft) (around : ℕ) (f : Identifier) (sorts : List Sort)
    (args : List ℕ) (c : CheckedTerm) : Type 0 where
  pub node : Node
  pub added : AddsNode library.nodes old new around node c
  pub is : IsNodeOf library f sorts args node

-- the answer is the node of a symbol alone that is no variable, which is added alone
pub record AddsAlone (library : Library) (old new : Draft) (around : ℕ) (name : List ℕ) (c : CheckedTerm)
    : Type 0 where
  pub node : Node
  pub added : AddsNode library.nodes old new around node c
  pub is : AreFree (table_of library)
      → node_alone (table_of library) name (op_by (table_of library).theories name [])
      (look_up (table_of library).heads name) ≡ Some node

-- the same of what an operator is
abbrev pub AddsOperator : Library → (old new : Draft) → ℕ → Result Op OpFault → List ℕ → CheckedTerm → Type 0
AddsOperator library old new around op args c = (node : Node) × AddsNode library.nodes old new around node c
    × ((head : Option Head) → applied_node op head args ≡ Some node)

-- if the node of each label stood for its term, it does so with the new labels
abbrev pub KeepsNamed : Library → (old new : Draft) → Type 0
KeepsNamed library old new = IsReady (table_in library old)
    → AreNamed (table_in library old) old.labels.given.items
    → AreNamed (table_in library new) new.labels.given.items

-- the node that was found is one of the draft's own, and stands for the term, which has so many annotations
-- without a label directly round it already, unless that uses a variable from outside
pub record Stands (library : Library) (old new : Draft) (around : ℕ) (term : Sexp) (c : CheckedTerm) : Type 0 where
  pub own : length (rows_of library.nodes) ≤ c.node
  pub number : c.node < length (rows_in library new)
  pub denotes : IsReady (table_in library old) → c.is_open ≡ false
      → Denotes (table_in library new) (slots_seen old) (places_seen old) around c.node term
  pub named : KeepsNamed library old new

-- what nodes of terms are, below a row, and what those of bindings are
abbrev pub Denoting : Type 1
Denoting = Table → Slots → (next i : ℕ) → List ℕ → Sexps → Type 0

-- nodes stand so for the parts of a term, unless one of these uses a variable from outside
pub record PartsStand (Are : Denoting) (library : Library) (old new : Draft) (parts : Sexps)
    (nodes : List ℕ) (is_open : Bool) : Type 0 where
  pub denote : IsReady (table_in library old) → is_open ≡ false
      → Are (table_in library new) (slots_seen old) (places_seen old) (length (rows_in library new)) nodes parts
  pub named : KeepsNamed library old new

abbrev pub TermsStand : Library → (old new : Draft) → Sexps → List ℕ → Bool → Type 0
TermsStand = PartsStand AreDenoted

abbrev pub BindingsStand : Library → (old new : Draft) → Sexps → List ℕ → Bool → Type 0
BindingsStand = PartsStand AreBound
