-- SMT-LIB 2.6, section 3.6: when a node of a table stands for a term. Nothing here knows a sort or a value.
use Rattle.std.specs.Prelude.{◌≡◌, ℕ, ◌+◌, ◌<◌, List, [], ◌∷◌, ◌++◌, ◌==◌, length, map, slice_get, false}
use Rattle.std.specs.Prelude.{Option, Some, None, option_map, Result, Ok, Err, if◌then◌else◌}
use Rattle.smt_trees.specs.Sexp.{Sexp, Sexps, Atom, Reserved, Items, Nil, Cons, Numeral, Decimal, Hexadecimal}
use Rattle.smt_trees.specs.Sexp.{Binary, Symbol}
use Rattle.smt_trees.specs.declared.reserved.Word.TheVariants.{As, Bang, Let, Underscore}
use Rattle.smt_theory.specs.Operators.{op_by}
use Rattle.smt_theory.specs.Words.{look_up}
use Rattle.smt_theory.specs.declared.op.Op.{Op}
use Rattle.smt_theory.specs.declared.op.OpFault.{OpFault}
use Rattle.smt_theory.specs.Sort.{Sort}
use Rattle.smt_theory.specs.Sort.{Boolean}
use Rattle.smt_theory.specs.declared.theories.Theories.{Theories}
use Rattle.smt_forms.specs.Bindings.{named_trees}
use Rattle.smt_forms.specs.ElementNames.{qualified_symbol}
use Rattle.smt_forms.specs.Identifier.{Identifier, Plain, Indexed, Qualified, applied, indexed}
use Rattle.smt_forms.specs.Labels.{labels_among}
use Rattle.smt_forms.specs.Variables.{uses_variable}
use Rattle.smt_theory.specs.declared.literal.LiteralKind.TheVariants as literal
use Rattle.smt_nodes.specs.Node as node
use Rattle.smt_nodes.specs.Node.{Node, Row}
use Rattle.smt_faults.specs.declared.term_flaw.TermFlaw.{TermFlaw}
use Rattle.smt_terms.specs.Elements.{ElementNames, constant_op, element_among}
use Rattle.smt_terms.specs.declared.library.Found.{Found}
use Rattle.smt_terms.specs.declared.library.Found.TheVariants as place

-- where a name in force stands, and how many arguments it takes
pub record Head : Type 0 where
  pub place : Found
  pub arity : ℕ

-- A table of terms: its theories, what terms may name elements by, the names in force, the name of each
-- definition and the node that is its body, by its place, and the nodes, by their numbers.
pub record Table : Type 0 where
  pub theories : Theories
  pub elements : Option ElementNames
  pub heads : List (List ℕ × Head)
  pub names : List (List ℕ)
  pub bodies : List ℕ
  pub rows : List Row

-- ---- which node

abbrev pub node_at : Found → List ℕ → Node
node_at (place.Declared n) args = node.Declared n args
node_at (place.Defined n) args = node.Defined n args

-- the node of a name in force with arguments, if it takes so many
abbrev pub named_node : Option Head → List ℕ → Option Node
named_node None args = None
named_node (Some head) args = if length args == head.arity then Some (node_at head.place args) else None

-- that of an operator, or else of a name in force: no name is both
abbrev pub applied_node : Result Op OpFault → Option Head → List ℕ → Option Node
applied_node (Ok op) head args = Some (node.Apply op args)
applied_node (Err fault) head args = named_node head args

-- that of an operator that holds its sort, if there is one
abbrev pub constant_node : Result Op TermFlaw → List ℕ → Option Node
constant_node (Ok op) args = Some (node.Apply op args)
constant_node (Err fault) args = None

-- that of an identifier with arguments
abbrev pub node_of : Table → Identifier → List ℕ → Option Node
node_of t (Plain f) args = applied_node (op_by t.theories f []) (look_up t.heads f) args
node_of t (Indexed f indexes) args = applied_node (op_by t.theories f indexes) None args
node_of t (Qualified sort) args = constant_node (constant_op t.theories t.elements sort) args

-- that of the element that a symbol is, if it is one
abbrev pub element_node : List ℕ → Option Sort → Option Node
element_node x None = None
element_node x (Some sort) = Some (node.Element x)

-- that of the element that is named by the symbol behind an `as`, where terms may name elements
abbrev pub qualified_node : Option ElementNames → Option (List ℕ) → Option Node
qualified_node None symbol = None
qualified_node (Some elements) symbol = option_map node.Element symbol

-- that of a symbol alone that is no variable: of an operator, of a name in force, or else of an element
abbrev pub node_alone : Table → List ℕ → Result Op OpFault → Option Head → Option Node
node_alone t x (Ok op) head = Some (node.Apply op [])
node_alone t x (Err fault) (Some head) = named_node (Some head) []
node_alone t x (Err fault) None = element_node x (element_among t.elements x)

-- that of a symbol alone: of a variable with this place, or else of a name without arguments
abbrev pub symbol_node : Table → List ℕ → Option ℕ → Option Node
symbol_node t x (Some slot) = Some (node.Slot slot)
symbol_node t x None = node_alone t x (op_by t.theories x []) (look_up t.heads x)

-- a row is this node, with so many annotations directly round it
abbrev pub IsRow : Option Row → ℕ → Option Node → Type 0
IsRow (Some row) around (Some node) = (row.node ≡ node) × (row.around ≡ around)
IsRow _ around _ = ⊥

-- where a node names a definition, the body of that has a number below i
abbrev pub HasBodyBelow : List ℕ → ℕ → Option Node → Type 0
HasBodyBelow bodies i (Some (node.Defined place args)) =
    (j : ℕ) × (slice_get bodies place ≡ Some j) × (j < i)
HasBodyBelow bodies i _ = Unit {0}

-- row i is this node, and what it names is known before it
abbrev pub IsNode : Table → ℕ → ℕ → Option Node → Type 0
IsNode t around i node = IsRow (slice_get t.rows i) around node × HasBodyBelow t.bodies i node

-- ---- variables

-- variables, each with its place in a frame
abbrev pub Slots : Type 0
Slots = List (List ℕ × ℕ)

-- names with the places from n on
abbrev pub slots_from : ℕ → List (List ℕ) → Slots
slots_from n [] = []
slots_from n (x ∷ xs) = (x, n) ∷ slots_from (n + 1) xs

-- the variables that bindings bring, with the places from n on
abbrev pub slots_bound : ℕ → Sexps → Slots
slots_bound n bindings = slots_from n (map (λ b. b.0) (named_trees bindings))

-- a term uses none of these variables, whatever their sorts
abbrev pub UsesNone : Slots → Sexp → Type 0
UsesNone slots term = uses_variable (map (λ s. (s.0, Boolean)) slots) term ≡ false

-- ---- what a node stands for

-- row i is the definition that has the label as its name; its body is a node below i, and such a node
abbrev pub IsNameOf : Table → List ℕ → ℕ → ℕ → (ℕ → Type 0) → Type 0
IsNameOf t label around i IsBody = (p : ℕ) × (j : ℕ) × (slice_get t.names p ≡ Some label)
    × IsRow (slice_get t.rows i) around (Some (node.Defined p [])) × (slice_get t.bodies p ≡ Some j) × (j < i)
    × IsBody j

-- what holds of an annotated term with these labels: the one where there is none, or else the other, of the
-- first label
abbrev pub unless_labelled : List (List ℕ) → (bare : Type 0) → (labelled : List ℕ → Type 0) → Type 0
unless_labelled [] bare labelled = bare
unless_labelled (label ∷ labels) bare labelled = labelled label

-- Node i, with so many annotations without a label directly round it already, stands for the term, where
-- variables have these places in a frame of `next` places. Parts have lower numbers. A term with labels is
-- closed, and its node is the name that its first label gives to it.
abbrev mutual
  pub Denotes : Table → Slots → (next around i : ℕ) → Sexp → Type 0
  Denotes t slots next around i (Atom Symbol x) = IsNode t around i (symbol_node t x (look_up slots x))
  Denotes t slots next around i (Atom Numeral digits) =
      IsNode t around i (Some (node.Literal literal.Numeral digits))
  Denotes t slots next around i (Atom Decimal digits) =
      IsNode t around i (Some (node.Literal literal.Decimal digits))
  Denotes t slots next around i (Atom Hexadecimal digits) =
      IsNode t around i (Some (node.Literal literal.Hexadecimal digits))
  Denotes t slots next around i (Atom Binary digits) = IsNode t around i (Some (node.Literal literal.Binary digits))
  Denotes t slots next around i (Items (Cons (Reserved Underscore) parts)) =
      (f : Identifier) × (indexed parts ≡ Ok f) × IsNode t around i (node_of t f [])
  Denotes t slots next around i (Items (Cons (Reserved As) parts)) =
      IsNode t around i (qualified_node t.elements (qualified_symbol parts))
  Denotes t slots next around i (Items (Cons (Reserved Let) (Cons (Items bindings) (Cons body Nil)))) =
      (js : List ℕ) × (j : ℕ) × IsNode t around i (Some (node.Let js j))
      × AreBound t slots next i js bindings × (j < i)
      × Denotes t (slots_bound next bindings ++ slots) (next + length js) 0 j body
  Denotes t slots next around i (Items (Cons (Reserved Bang) (Cons term attributes))) =
      unless_labelled (labels_among attributes) (Denotes t slots next (around + 1) i term)
      (λ label. UsesNone slots term × IsNameOf t label around i (λ j. Denotes t [] 0 0 j term))
  Denotes t slots next around i (Items (Cons head args)) =
      (f : Identifier) × (js : List ℕ) × (applied head args ≡ Ok f) × IsNode t around i (node_of t f js)
      × AreDenoted t slots next i js args
  Denotes t slots next around i _ = ⊥

  -- nodes below i stand for terms, one for each
  pub AreDenoted : Table → Slots → (next i : ℕ) → List ℕ → Sexps → Type 0
  AreDenoted t slots next i [] Nil = Unit {0}
  AreDenoted t slots next i (j ∷ js) (Cons x xs) =
      (j < i) × Denotes t slots next 0 j x × AreDenoted t slots next i js xs
  AreDenoted t slots next i _ _ = ⊥

  -- nodes below i stand for the terms of bindings, one for each
  pub AreBound : Table → Slots → (next i : ℕ) → List ℕ → Sexps → Type 0
  AreBound t slots next i [] Nil = Unit {0}
  AreBound t slots next i (j ∷ js) (Cons (Items (Cons (Atom Symbol x) (Cons term Nil))) rest) =
      (j < i) × Denotes t slots next 0 j term × AreBound t slots next i js rest
  AreBound t slots next i _ _ = ⊥

-- ---- longer tables

-- no name that has a head among the second alone is an element's
abbrev pub AreApart : Option ElementNames → (heads more : List (List ℕ × Head)) → Type 0
AreApart elements heads more = (x : List ℕ) (head : Head) → look_up heads x ≡ None
    → look_up more x ≡ Some head → element_among elements x ≡ None

-- the second table is the first, and perhaps more names, bodies and nodes behind; no name that is new is an
-- element's
pub record IsLonger (t u : Table) : Type 0 where
  pub theories : u.theories ≡ t.theories
  pub elements : u.elements ≡ t.elements
  pub heads : (more : List (List ℕ × Head)) × (u.heads ≡ t.heads ++ more)
  pub apart : AreApart t.elements t.heads u.heads
  pub names : (more : List (List ℕ)) × (u.names ≡ t.names ++ more)
  pub bodies : (more : List ℕ) × (u.bodies ≡ t.bodies ++ more)
  pub rows : (more : List Row) × (u.rows ≡ t.rows ++ more)
