-- What the parts of a node at a place tell of it.
use Rattle.std.proofs.Common.{◌≡◌, ℕ, ◌+◌, List, [], true, false, length, nat_eq, option_map, slice_get, Option}
use Rattle.std.proofs.Common.{Some, None, ap, sym, refl}
use Rattle.smt_theory.specs.declared.op.Op.{Op}
use Rattle.smt_nodes.specs.Node as node
use Rattle.smt_nodes.specs.Node.{Row}
use Rattle.smt_nodes.specs.NodeParts.{NodeParts, Args, Declared, Defined, Let, parts_of}
use Rattle.smt_nodes.specs.Nodes.{rows_of}
use Rattle.smt_machine.specs.Internal.Parts.{elements_at, found, found_node, found_parts}
use Rattle.smt_machine.specs.Nodes as machine
use Rattle.smt_machine.specs.Tables.{call, resolved, shifted}
use Rattle.smt_machine.specs.declared.tables.Place.{Place}

-- the node of a row, by its parts
node_at : (at : Place) (row : Option Row) (parts : NodeParts) (P : Option machine.Node → Type 0)
    → option_map (λ (r : Row). parts_of r.node) row ≡ Some parts
    → ((n : node.Node) → parts_of n ≡ parts
    → P (Some (resolved (elements_at at) at.shift at.bodies.now at.declared.now n)))
    → P (option_map (λ (r : Row). resolved (elements_at at) at.shift at.bodies.now at.declared.now r.node) row)
node_at at None parts P h by = cc
node_at at (Some r) parts P h by = by r.node cc

-- a node that is seen whole
pub found_as : (at : Place) (n : node.Node) → found_node at ≡ Some n
    → found at ≡ Some (resolved (elements_at at) at.shift at.bodies.now at.declared.now n)
found_as at n h = by (slice_get (rows_of at.nodes.now) at.number) h
  where
    by : (row : Option Row) → option_map (λ (r : Row). r.node) row ≡ Some n
        → option_map (λ (r : Row). resolved (elements_at at) at.shift at.bodies.now at.declared.now r.node) row
        ≡ Some (resolved (elements_at at) at.shift at.bodies.now at.declared.now n)
    by None e = cc
    by (Some r) e =
        let same : r.node ≡ n = cc in
        ap (λ m. Some (resolved (elements_at at) at.shift at.bodies.now at.declared.now m)) same

pub none_at : (at : Place) → None ≡ found_parts at → None ≡ found at
none_at at h = by (slice_get (rows_of at.nodes.now) at.number) h
  where
    by : (row : Option Row) → None ≡ option_map (λ (r : Row). parts_of r.node) row
        → None ≡ option_map (λ (r : Row). resolved (elements_at at) at.shift at.bodies.now at.declared.now r.node) row
    by None e = refl
    by (Some r) e = cc

-- an operator, where there are arguments
pub operator_at : (at : Place) (args : List ℕ) → found_parts at ≡ Some (Args args)
    → nat_eq (length (shifted at.shift args)) 0 ≡ false
    → (op : Op) × (found at ≡ Some (machine.Apply op (shifted at.shift args)))
operator_at at args h some =
    node_at at (slice_get (rows_of at.nodes.now) at.number) (Args args)
    (λ m. (op : Op) × (m ≡ Some (machine.Apply op (shifted at.shift args)))) h by
  where
    leaf : [] ≡ args → {A : Type 0} → A
    leaf e =
        let none : nat_eq (length (shifted at.shift args)) 0 ≡ true =
        ap (λ (xs : List ℕ). nat_eq (length (shifted at.shift xs)) 0) (sym e) in cc

    by : (n : node.Node) → parts_of n ≡ Args args
        → (op : Op)
        × (Some (resolved (elements_at at) at.shift at.bodies.now at.declared.now n)
        ≡ Some (machine.Apply op (shifted at.shift args)))
    by (node.Literal kind digits) e = leaf cc
    by (node.Element name) e = leaf cc
    by (node.Slot place) e = leaf cc
    by (node.Apply op js) e =
        let same : js ≡ args = cc in (op, ap (λ (xs : List ℕ). Some (machine.Apply op (shifted at.shift xs))) same)
    by (node.Declared place js) e = cc
    by (node.Defined place js) e = cc
    by (node.Let values body) e = cc

pub declared_at : (at : Place) (place : ℕ) (args : List ℕ) → found_parts at ≡ Some (Declared place args)
    → found at ≡ Some (call (slice_get at.declared.now place) (shifted at.shift args))
declared_at at place args h =
    node_at at (slice_get (rows_of at.nodes.now) at.number) (Declared place args)
    (λ m. m ≡ Some (call (slice_get at.declared.now place) (shifted at.shift args))) h by
  where
    by : (n : node.Node) → parts_of n ≡ Declared place args
        → Some (resolved (elements_at at) at.shift at.bodies.now at.declared.now n)
        ≡ Some (call (slice_get at.declared.now place) (shifted at.shift args))
    by (node.Declared p js) e =
        let here : p ≡ place = cc in
        let same : js ≡ args = cc in
        λ k. Some (call (slice_get at.declared.now (here k)) (shifted at.shift (same k)))
    by _ e = cc

pub defined_at : (at : Place) (place : ℕ) (args : List ℕ) → found_parts at ≡ Some (Defined place args)
    → found at
    ≡ Some (call (option_map (λ j. at.shift + j) (slice_get at.bodies.now place)) (shifted at.shift args))
defined_at at place args h =
    node_at at (slice_get (rows_of at.nodes.now) at.number) (Defined place args)
    (λ m. m ≡ Some (call (option_map (λ j. at.shift + j) (slice_get at.bodies.now place)) (shifted at.shift args)))
    h by
  where
    by : (n : node.Node) → parts_of n ≡ Defined place args
        → Some (resolved (elements_at at) at.shift at.bodies.now at.declared.now n)
        ≡ Some (call (option_map (λ j. at.shift + j) (slice_get at.bodies.now place)) (shifted at.shift args))
    by (node.Defined p js) e =
        let here : p ≡ place = cc in
        let same : js ≡ args = cc in
        λ k. Some (call (option_map (λ j. at.shift + j) (slice_get at.bodies.now (here k)))
        (shifted at.shift (same k)))
    by _ e = cc

pub let_at : (at : Place) (values : List ℕ) (body : ℕ) → found_parts at ≡ Some (Let values body)
    → found at ≡ Some (machine.Let (shifted at.shift values) (at.shift + body))
let_at at values body h =
    node_at at (slice_get (rows_of at.nodes.now) at.number) (Let values body)
    (λ m. m ≡ Some (machine.Let (shifted at.shift values) (at.shift + body))) h by
  where
    by : (n : node.Node) → parts_of n ≡ Let values body
        → Some (resolved (elements_at at) at.shift at.bodies.now at.declared.now n)
        ≡ Some (machine.Let (shifted at.shift values) (at.shift + body))
    by (node.Let vs b) e =
        let same : vs ≡ values = cc in
        let here : b ≡ body = cc in
        λ k. Some (machine.Let (shifted at.shift (same k)) (at.shift + here k))
    by _ e = cc
