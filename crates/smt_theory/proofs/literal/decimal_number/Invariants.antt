use Rattle.std.proofs.Common.{◌≡◌, ◌^◌, ◌<◌, drop}
use Rattle.std.specs.List.{filter}
use Rattle.std.specs.Str.Parse.{digits_value, digits_value_after}
use Rattle.smt_theory.specs.Literals.{is_figure}
use Rattle.smt_theory.proofs.literal.decimal_number.Given as goal

abbrev pub invariant-loop-byte : goal.invariant-loop-byte
invariant-loop-byte l = record {
  read : digits_value 10 (filter is_figure l.digits)
      ≡ digits_value_after 10 l.value (filter is_figure (drop l.byte-index l.digits));
  fits : l.value < 2 ^ 128;
}
