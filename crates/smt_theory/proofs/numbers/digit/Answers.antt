use Rattle.std.proofs.Common.{get_or, ap, arith}
use Rattle.smt_theory.proofs.DigitTableLemmas.{digit_right}
use Rattle.smt_theory.proofs.numbers.digit.Goals as goal

pub overflow_sub-result : goal.overflow_sub-result
overflow_sub-result c =
    let right = digit_right c.args.byte (get_or c.digit_values.result.now c.args.byte 0)
    (omega (arith, c.ranges.byte.fits)) (ap (λ xs. get_or xs c.args.byte 0) c.digit_values.ensures) in
    omega (arith, right)

pub returns : goal.returns
returns c =
    let right = digit_right c.args.byte (get_or c.digit_values.result.now c.args.byte 0)
    (omega (arith, c.ranges.byte.fits)) (ap (λ xs. get_or xs c.args.byte 0) c.digit_values.ensures) in
    omega (arith, right)
