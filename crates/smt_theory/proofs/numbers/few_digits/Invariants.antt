-- what the digits so far spell, which is below what fits
use Rattle.std.proofs.Common.{◌≡◌, ◌≤◌, ◌+◌, ◌*◌, ◌^◌, drop}
use Rattle.std.specs.Str.Parse.{digits_value, digits_value_after}
use Rattle.smt_theory.proofs.numbers.few_digits.Given as goal

abbrev pub invariant-loop-byte : goal.invariant-loop-byte
invariant-loop-byte l = record {
  read : digits_value l.base l.digits ≡ digits_value_after l.base l.value (drop l.byte-index l.digits);
  small : l.value + 3 ≤ 3 * 16 ^ l.byte-index;
}
