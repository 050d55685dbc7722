-- The lists behind the rows, and the node that a row stores by its counts and where it ends.
use Rattle.std.specs.Prelude.{◌≡◌, ◌≤◌, ◌+◌, ◌-◌, ℕ, List, [], ◌++◌, length, take, slice_index_or}
use Rattle.std.specs.Prelude.{None, slice_range}
use Rattle.smt_theory.specs.declared.op.CoreOp.TheVariants.{True}
use Rattle.smt_theory.specs.declared.op.Op.{Op}
use Rattle.smt_theory.specs.declared.op.Op.TheVariants.{Core}
use Rattle.smt_theory.specs.PlainOp.{op_of_plain}
use Rattle.smt_nodes.specs.Internal.Annotations.{annotated_in}
use Rattle.smt_nodes.specs.Node as spec
use Rattle.smt_nodes.specs.declared.rows.Ends.{Ends}
use Rattle.smt_nodes.specs.declared.rows.Stored.{Stored}
use Rattle.smt_nodes.specs.declared.rows.Stored.TheVariants.{Literal, Large, Element, Slot, Plain, Numbered}
use Rattle.smt_nodes.specs.declared.rows.Stored.TheVariants.{Declared}
use Rattle.smt_nodes.specs.declared.rows.Stored.TheVariants.{Defined, Let, Annotated}
use Rattle.smt_nodes.specs.declared.tables.Tables.{Tables}

pub record Lists : Type 0 where
  pub parts : List ℕ
  pub digits : List ℕ
  pub ops : List Op

abbrev pub lists_of : Tables → Lists
lists_of t = record { parts = t.parts.items; digits = t.digits.items; ops = t.ops.items }

abbrev pub no_lists : Lists
no_lists = record { parts = []; digits = []; ops = [] }

abbrev pub lengths : Lists → Ends
lengths t = record { parts = length t.parts; digits = length t.digits; ops = length t.ops }

abbrev pub first_of : Ends → Lists → Lists
first_of ends t = record {
  parts = take ends.parts t.parts;
  digits = take ends.digits t.digits;
  ops = take ends.ops t.ops;
}

-- the first reaches no further than the second
pub record IsUpTo (a b : Ends) : Type 0 where
  pub parts : a.parts ≤ b.parts
  pub digits : a.digits ≤ b.digits
  pub ops : a.ops ≤ b.ops

-- the second list is the first, and perhaps more behind it
abbrev pub IsPrefix : {A : Type 0} → List A → List A → Type 0
IsPrefix {A} first second = (more : List A) × (second ≡ first ++ more)

-- the second lists are the first, and perhaps more behind them
pub record Grows (t u : Lists) : Type 0 where
  pub parts : IsPrefix t.parts u.parts
  pub digits : IsPrefix t.digits u.digits
  pub ops : IsPrefix t.ops u.ops

-- so many up to an end
abbrev pub before : {A : Type 0} → ℕ → ℕ → List A → List A
before n end xs = slice_range xs (end - n) end

abbrev pub node_of : Lists → Ends → Stored → spec.Node
node_of t ends (Literal kind n number) = spec.Literal kind (before n ends.digits t.digits)
node_of t ends (Large kind n place) = spec.Literal kind (before n ends.digits t.digits)
node_of t ends (Element n number) = spec.Element (before n ends.digits t.digits)
node_of t ends (Slot place) = spec.Slot place
node_of t ends (Plain op n) = spec.Apply (op_of_plain op) (before n ends.parts t.parts)
node_of t ends (Numbered place n) =
    spec.Apply (slice_index_or t.ops place (Core True)) (before n ends.parts t.parts)
node_of t ends (Declared place n) = spec.Declared place (before n ends.parts t.parts)
node_of t ends (Defined place n) = spec.Defined place (before n ends.parts t.parts)
node_of t ends (Let n body) = spec.Let (before n ends.parts t.parts) body
-- of no use: what is stored for the node of such a row is elsewhere
node_of t ends (Annotated place around) = spec.Slot place

-- how much of each list a node takes
abbrev pub parts_in : Stored → ℕ
parts_in (Plain op n) = n
parts_in (Numbered place n) = n
parts_in (Declared place n) = n
parts_in (Defined place n) = n
parts_in (Let n body) = n
parts_in _ = 0

abbrev pub digits_in : Stored → ℕ
digits_in (Literal base n number) = n
digits_in (Large base n place) = n
digits_in (Element n number) = n
digits_in _ = 0

abbrev pub ops_in : Stored → ℕ
ops_in (Numbered place n) = place + 1
ops_in _ = 0

-- a node takes no more than there is up to these ends
pub record IsHeld (ends : Ends) (stored : Stored) : Type 0 where
  pub parts : parts_in stored ≤ ends.parts
  pub digits : digits_in stored ≤ ends.digits
  pub ops : ops_in stored ≤ ends.ops

-- a node stands at the ends of the lists
pub record IsStored (t : Lists) (stored : Stored) (seen : spec.Node) : Type 0 where
  pub held : IsHeld (lengths t) stored
  pub node : node_of t (lengths t) stored ≡ seen
  pub bare : annotated_in stored ≡ None
