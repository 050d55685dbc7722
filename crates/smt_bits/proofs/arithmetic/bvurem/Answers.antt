use Rattle.std.proofs.Common.{rules, ◌≡◌, ◌<◌, ◌^◌, subst}
use Rattle.smt_bits.proofs.ArithmeticLemmas.{remainder}
use Rattle.smt_bits.proofs.arithmetic.bvurem.Goals as goal

pub returns-else-number-eq0 : goal.returns-else-number-eq0
returns-else-number-eq0 c =
    let s = c.number-else-number-eq0 in
    let some : c.args.t.number ≡ 0 → ⊥ = λ none. c.if-number-eq0.false cc in
    let below = subst (λ n. n < 2 ^ c.args.s.width) s.ensures.value s.ensures.below in
    let meant = remainder c.args.s.width c.args.s.number c.args.t.number some below in
    cc

pub returns-then-number-eq0 : goal.returns-then-number-eq0
returns-then-number-eq0 c = search rules
