use Rattle.std.proofs.Common.{rules, ◌≡◌, ◌<◌, ◌≤◌, ◌^◌, subst}
use Rattle.smt_bits.proofs.ArithmeticLemmas.{all_set, quotient, quotient_at_zero}
use Rattle.smt_bits.proofs.arithmetic.bvudiv.Goals as goal

pub returns-then-number-eq0 : goal.returns-then-number-eq0
returns-then-number-eq0 c =
    let within : c.width.result ≤ 128 = search rules in
    let number = all_set c.width.result within in
    let none : c.args.t.number ≡ 0 = cc in
    let meant = quotient_at_zero c.args.s.width c.args.s.number c.args.t.number none in
    cc

pub returns-else-number-eq0 : goal.returns-else-number-eq0
returns-else-number-eq0 c =
    let s = c.number-else-number-eq0 in
    let some : c.args.t.number ≡ 0 → ⊥ = λ none. c.if-number-eq0.false cc in
    let below = subst (λ n. n < 2 ^ c.args.s.width) s.ensures.value s.ensures.below in
    let meant = quotient c.args.s.width c.args.s.number c.args.t.number some below in
    cc
