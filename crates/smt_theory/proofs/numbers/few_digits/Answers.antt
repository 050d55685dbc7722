use Rattle.std.proofs.Common.{◌≡◌, ◌≤◌, ◌<◌, ◌+◌, ◌*◌, ◌^◌, ◌∙◌, ap, arith, drop, get_or, rules, subst, sym}
use Rattle.std.specs.Char.{digit_value}
use Rattle.std.specs.Str.Parse.{digits_value_after}
use Rattle.smt_theory.proofs.DigitLemmas.{digits_at, small_fits, small_on}
use Rattle.smt_theory.proofs.numbers.few_digits.Goals as goal

pub overflow_mul-value : goal.overflow_mul-value
overflow_mul-value c =
    let i = c.loop-byte.byte-index in
    let next = small_on c.args.base c.loop-byte.value (get_or c.args.digits.now i 0) i c.requires.base
    c.loop-byte.invariant.small in
    let fits = small_fits _ (i + 1) next (omega (arith, c.loop-byte-test.true, c.requires.few)) in
    let below : c.loop-byte.value * c.from.result < 2 ^ 64 = search (rules, fits) in
    search (rules, below)

pub overflow_add-value : goal.overflow_add-value
overflow_add-value c =
    let i = c.loop-byte.byte-index in
    let next = small_on c.args.base c.loop-byte.value (get_or c.args.digits.now i 0) i c.requires.base
    c.loop-byte.invariant.small in
    let fits = small_fits _ (i + 1) next (omega (arith, c.loop-byte-test.true, c.requires.few)) in
    search (rules, fits)

pub loop-byte-preserved : goal.loop-byte-preserved
loop-byte-preserved c =
    let i = c.loop-byte.byte-index in
    let byte = get_or c.args.digits.now i 0 in
    let sum : c.loop-byte.value * c.from.result + c.from-in-loop-byte.result
    ≡ c.loop-byte.value * c.args.base + digit_value byte = search rules in
    record {
      read = c.loop-byte.invariant.read
          ∙ digits_at c.args.base c.loop-byte.value c.args.digits.now i c.loop-byte-test.true
          ∙ ap (λ n. digits_value_after c.args.base n (drop (i + 1) c.args.digits.now)) (sym sum);
      small = subst (λ n. n + 3 ≤ 3 * 16 ^ (i + 1)) (sym sum)
          (small_on c.args.base c.loop-byte.value byte i c.requires.base c.loop-byte.invariant.small);
    }
