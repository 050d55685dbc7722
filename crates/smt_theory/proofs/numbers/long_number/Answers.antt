use Rattle.std.proofs.Common.{◌≤◌, ◌+◌, ◌*◌, ◌∙◌, drop, get_or, sym, subst}
use Rattle.std.specs.Char.{digit_value}
use Rattle.std.specs.Str.Parse.{digits_value}
use Rattle.smt_theory.proofs.DigitLemmas.{digits_at, digits_value_after-ge, too_large}
use Rattle.smt_theory.proofs.numbers.long_number.Goals as goal

pub returns-in_err-value : goal.returns-in_err-value
returns-in_err-value c =
    let read = c.loop-byte.value * c.args.base
    + digit_value (get_or c.args.digits.now c.loop-byte.byte-index 0) in
    let whole = c.loop-byte.invariant.read ∙ digits_at c.args.base c.loop-byte.value c.args.digits.now
    c.loop-byte.byte-index c.loop-byte-test.true in
    let below : read ≤ digits_value c.args.base c.args.digits.now =
    subst (λ n. read ≤ n) (sym whole)
    (digits_value_after-ge c.args.base read
    (drop (c.loop-byte.byte-index + 1) c.args.digits.now) c.requires) in
    c.from_residual.ensures ∙ sym
    (too_large read (digits_value c.args.base c.args.digits.now)
    (sym c.with_digit.ensures ∙ c.in_err-value.was) below)
