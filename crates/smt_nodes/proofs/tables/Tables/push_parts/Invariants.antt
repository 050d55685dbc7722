-- the parts so far are added, and there is room for the others
use Rattle.std.proofs.Common.{◌≡◌, ◌≤◌, ◌+◌, ◌-◌, ◌++◌, length, take}
use Rattle.std.specs.Prelude.{vec_capacity, vec_len}
use Rattle.smt_nodes.specs.Internal.Annotations.{annotated_of}
use Rattle.smt_nodes.proofs.tables.Tables.push_parts.Given as goal

abbrev pub invariant-loop-part : goal.invariant-loop-part
invariant-loop-part l = record {
  added : l.self.parts.items ≡ l.fn.self.parts.items ++ take l.part-index l.parts;
  room : vec_len l.self.parts + (length l.parts - l.part-index) ≤ vec_capacity l.self.parts;
  digits : l.self.digits ≡ l.fn.self.digits;
  ops : l.self.ops ≡ l.fn.self.ops;
  large : l.self.large ≡ l.fn.self.large;
  annotated : annotated_of l.self ≡ annotated_of l.fn.self;
}
