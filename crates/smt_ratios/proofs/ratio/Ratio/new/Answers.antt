use Rattle.std.proofs.Common.{◌≡◌, ◌<◌, ◌^◌, ◌∙◌, ap, rules}
use Rattle.std.specs.Int.{cast_signed, w128}
use Rattle.std.proofs.lemmas.Int.{to_z-of_z}
use Rattle.smt_ratios.proofs.TermLemmas.{packed}
use Rattle.smt_ratios.proofs.ratio.Ratio.new.Goals as goal

pub invariant_of-result : goal.invariant_of-result
invariant_of-result c =
    let below : c.cast_unsigned-bits.result < 2 ^ 128 = search rules in
    let bits : cast_signed w128 c.cast_unsigned-bits.result ≡ c.args.numerator =
    ap (cast_signed w128) c.cast_unsigned-bits.ensures
    ∙ to_z-of_z w128 _ (search rules) ∙ to_z-of_z w128 c.args.numerator c.ranges.numerator in
    packed c.args.numerator c.args.denominator c.cast_unsigned-bits.result _ _ _ _ below bits c.requires
    (c.new.ensures ∙ c.high_word.ensures) (c.new-2.ensures ∙ c.low_word.ensures)
    (c.new-3.ensures ∙ c.high_word-2.ensures) (c.new-4.ensures ∙ c.low_word-2.ensures)
