-- Nodes of terms (SMT-LIB 2.6, section 3.6), whose parts are nodes by their numbers, and rows of a table of
-- nodes. Nothing here knows what a number or a place stands for.
use Rattle.std.specs.Prelude.{ℕ, List}
use Rattle.smt_theory.specs.declared.literal.LiteralKind.{LiteralKind}
use Rattle.smt_theory.specs.declared.op.Op.{Op}

pub data Node : Type 0 where
  -- a literal, by its digits
  Literal : (kind : LiteralKind) → (digits : List ℕ) → Node
  -- an element of a declared sort, by its name
  Element : (name : List ℕ) → Node
  -- a variable: a place of the frame, from 0
  Slot : (place : ℕ) → Node
  Apply : (op : Op) → (args : List ℕ) → Node
  -- a place among the declared names or among the definitions, from 0
  Declared : (place : ℕ) → (args : List ℕ) → Node
  Defined : (place : ℕ) → (args : List ℕ) → Node
  Let : (values : List ℕ) → (body : ℕ) → Node

-- a node, and how many annotations without a label stand directly round it
pub record Row : Type 0 where
  pub node : Node
  pub around : ℕ
