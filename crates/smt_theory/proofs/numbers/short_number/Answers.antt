use Rattle.std.proofs.Common.{◌≤◌, ◌+◌, ◌*◌, ◌^◌, ◌∙◌, drop, get_or, sym, subst, Option, IfNone, ℕ, arith}
use Rattle.std.specs.Char.{digit_value}
use Rattle.std.specs.Str.Parse.{digits_value}
use Rattle.smt_theory.proofs.DigitLemmas.{digits_at, digits_value_after-ge}
use Rattle.smt_theory.proofs.numbers.short_number.Goals as goal

pub returns-in_err-value-clause-large : goal.returns-in_err-value-clause-large
returns-in_err-value-clause-large c =
    let whole = digits_value c.args.base c.args.digits.now in
    let read = c.loop-byte.value * c.args.base
    + digit_value (get_or c.args.digits.now c.loop-byte.byte-index 0) in
    let same = c.loop-byte.invariant.read ∙ digits_at c.args.base c.loop-byte.value c.args.digits.now
    c.loop-byte.byte-index c.loop-byte-test.true in
    let below : read ≤ whole =
    subst (λ n. read ≤ n) (sym same)
    (digits_value_after-ge c.args.base read
    (drop (c.loop-byte.byte-index + 1) c.args.digits.now) c.requires) in
    let large : 2 ^ 64 ≤ read = c.in_err-value.ensures.large in
    subst (λ (r : Option ℕ). IfNone r (2 ^ 64 ≤ whole)) (sym c.from_residual.ensures)
    (omega (arith, large, below))
