use Rattle.std.proofs.Common.{arith, subst, sym, unsigned_abs}
use Rattle.std.specs.Int.{IsGcd, w128}
use Rattle.std.proofs.lemmas.Int.{to_z-of_z}
use Rattle.smt_ratios.proofs.number.number_of_terms.Goals as goal

pub new-requires : goal.new-requires
new-requires c = record {
  alone = subst (λ z. IsGcd (unsigned_abs z) c.args.denominator 1)
      (sym (to_z-of_z w128 c.args.numerator c.ranges.numerator)) c.requires.alone;
  some = omega arith;
  below = omega arith;
}
