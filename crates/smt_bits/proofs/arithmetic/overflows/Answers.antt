use Rattle.std.proofs.Common.{◌≡◌, ◌%◌, ◌^◌, ◌<◌, ◌≤◌, ℕ, pos, not, nat_eq, ap, sym, subst, ◌∙◌, true, rules}
use Rattle.std.specs.Option.{SomeIff}
use Rattle.smt_bits.specs.Operators.{overflows}
use Rattle.smt_bits.proofs.OverflowLemmas.{lowest_bits, outside}
use Rattle.smt_bits.proofs.arithmetic.overflows.Goals as goal

pub returns-in-Some : goal.returns-in-Some
returns-in-Some c n h =
    let some = subst (λ o. SomeIff o (n < 2 ^ 128) n) c.in-Some.is h in
    let number = c.number.ensures.value ∙ ap (λ v. v.number) c.new.ensures in
    ap (λ x. not (nat_eq x c.in-Some.n)) number ∙ lowest_bits c.args.width c.in-Some.n
    ∙ ap (λ k. overflows c.args.width (pos k)) some.1

pub returns-in-None : goal.returns-in-None
returns-in-None c n h =
    let within : c.args.width ≤ 128 = search rules in
    outside c.args.width n within (subst (λ o. SomeIff o (n < 2 ^ 128) n) c.in-None.is h)
