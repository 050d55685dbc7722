-- the digits so far are added, and there is room for the others
use Rattle.std.proofs.Common.{◌≡◌, ◌≤◌, ◌+◌, ◌-◌, ◌++◌, length, take}
use Rattle.std.specs.Prelude.{vec_capacity, vec_len}
use Rattle.smt_nodes.specs.Internal.Annotations.{annotated_of}
use Rattle.smt_nodes.proofs.tables.Tables.push_digits.Given as goal

abbrev pub invariant-loop-digit : goal.invariant-loop-digit
invariant-loop-digit l = record {
  added : l.self.digits.items ≡ l.fn.self.digits.items ++ take l.digit-index l.digits;
  room : vec_len l.self.digits + (length l.digits - l.digit-index) ≤ vec_capacity l.self.digits;
  parts : l.self.parts ≡ l.fn.self.parts;
  ops : l.self.ops ≡ l.fn.self.ops;
  large : l.self.large ≡ l.fn.self.large;
  annotated : annotated_of l.self ≡ annotated_of l.fn.self;
}
