use Rattle.std.proofs.Common.{◌≡◌, ◌-◌, ◌^◌, ap, arith, ◌∙◌}
use Rattle.std.proofs.lemmas.Nat.Bits.{ones_shr}
use Rattle.smt_bits.proofs.bits.mask.Goals as goal

pub returns : goal.returns
returns c =
    let same = c.bits.ensures.value in
    let most = c.bits.ensures.within in
    let left : 128 - (128 - c.bits.result) ≡ c.bits.result = omega arith in
    ones_shr 128 (128 - c.bits.result) (omega arith) ∙ ap (λ n. 2 ^ n - 1) (left ∙ same)
