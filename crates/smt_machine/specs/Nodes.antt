-- Nodes of terms by their numbers, and the value of one where those of lower numbers are given. This file
-- knows no table.
use Rattle.std.specs.Prelude.{ℕ, List, ◌++◌, Option, Some, None, map, nat_lt, slice_get, unwrap_or}
use Rattle.std.specs.Prelude.{if◌then◌else◌}
use Rattle.smt_theory.specs.declared.op.Op.{Op}
use Rattle.smt_arrays.specs.Element.{Element}
use Rattle.smt_arrays.specs.Known.{known_step}

-- the values of variables, of which some may be open, by their places
abbrev pub Frame : Type 0
Frame = List (Option Element)

-- what is known of the node of each number, in each frame
abbrev pub Giving : Type 0
Giving = ℕ → Frame → Option Element

-- A node: a known or open value; a variable, by its place; an operator with its arguments; a body with the
-- arguments that are its frame; a body with the values that are added to the frame. Parts are nodes, by their
-- numbers.
pub data Node : Type 0 where
  Known : (value : Option Element) → Node
  Slot : (place : ℕ) → Node
  Apply : (op : Op) → (args : List ℕ) → Node
  Call : (body : ℕ) → (args : List ℕ) → Node
  Let : (values : List ℕ) → (body : ℕ) → Node

-- a part of node i has a number below i, or is open
abbrev pub part : ℕ → Giving → Frame → ℕ → Option Element
part i g frame j = if nat_lt j i then g j frame else None

abbrev pub parts : ℕ → Giving → Frame → List ℕ → List (Option Element)
parts i g frame js = map (part i g frame) js

-- what stands at a place of a frame
abbrev pub at_place : Frame → ℕ → Option Element
at_place frame k = unwrap_or (slice_get frame k) None

-- what is known of node i, where g is known of those below it
abbrev pub node_value : ℕ → Giving → Frame → Option Node → Option Element
node_value i g frame None = None
node_value i g frame (Some (Known v)) = v
node_value i g frame (Some (Slot k)) = at_place frame k
node_value i g frame (Some (Apply op args)) = known_step op (parts i g frame args)
node_value i g frame (Some (Call body args)) = part i g (parts i g frame args) body
node_value i g frame (Some (Let values body)) = part i g (frame ++ parts i g frame values) body
