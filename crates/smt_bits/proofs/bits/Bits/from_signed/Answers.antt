use Rattle.std.proofs.Common.{◌%◌, ◌^◌, ◌≤◌, rules, ap, ◌∙◌}
use Rattle.std.specs.Int.{w128, cast_unsigned}
use Rattle.std.proofs.lemmas.Int.{to_z-of_z}
use Rattle.smt_bits.specs.BitVector.{vector}
use Rattle.smt_bits.proofs.SignedLemmas.{cast_modulo}
use Rattle.smt_bits.proofs.bits.Bits.from_signed.Goals as goal

pub returns : goal.returns
returns c =
    let within : c.args.width ≤ 128 = search rules in
    let number = c.cast_unsigned.ensures ∙ ap (cast_unsigned w128) (to_z-of_z w128 c.args.z c.ranges.z) in
    c.new.ensures ∙ ap (λ n. vector c.args.width n)
    (ap (λ n. n % 2 ^ c.args.width) number ∙ cast_modulo c.args.width c.args.z within c.ranges.z)
