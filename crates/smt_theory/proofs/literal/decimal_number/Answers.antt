use Rattle.std.proofs.Common.{◌≤◌, ◌+◌, ◌*◌, ◌∙◌, drop, get_or, sym, subst, arith, rules}
use Rattle.std.specs.Char.{digit_value}
use Rattle.std.specs.List.{filter}
use Rattle.std.specs.Str.Parse.{digits_value}
use Rattle.smt_theory.specs.Literals.{is_figure}
use Rattle.smt_theory.proofs.DigitLemmas.{digits_value_after-ge, figure_at, too_large}
use Rattle.smt_theory.proofs.literal.decimal_number.Goals as goal

pub returns-in_err-value : goal.returns-in_err-value
returns-in_err-value c =
    let digits = filter is_figure c.args.digits.now in
    let read = c.loop-byte.value * 10 + digit_value (get_or c.args.digits.now c.loop-byte.byte-index 0) in
    let whole = c.loop-byte.invariant.read ∙ figure_at c.loop-byte.value c.args.digits.now c.loop-byte.byte-index
    c.loop-byte-test.true (search rules) in
    let below : read ≤ digits_value 10 digits =
    subst (λ n. read ≤ n) (sym whole)
    (digits_value_after-ge 10 read (filter is_figure (drop (c.loop-byte.byte-index + 1) c.args.digits.now)) (omega arith)) in
    c.from_residual.ensures ∙ sym
    (too_large read (digits_value 10 digits) (sym c.with_digit.ensures ∙ c.in_err-value.was) below)
