use Rattle.std.proofs.Common.{rules, ◌≡◌, ◌+◌, ◌-◌, ◌*◌, ◌^◌, ◌%◌, ◌≤◌, FitsSigned, ap, ◌∙◌, arith}
use Rattle.std.specs.Int.{w128, int_shr, cast_signed, cast_unsigned}
use Rattle.std.proofs.lemmas.Int.{to_z-of_z}
use Rattle.smt_bits.specs.BitVector.{signed}
use Rattle.smt_bits.proofs.SignedLemmas.{fits_shr, signed_by_shifts}
use Rattle.smt_bits.proofs.bits.Bits.signed.Goals as goal

pub returns : goal.returns
returns c =
    let k = 128 - c.bits-unused.result in
    let m = c.self.inside.width in
    let same = c.bits-unused.ensures.value in
    let some : 1 ≤ m = omega arith in
    let sum : m + k ≡ 128 = omega arith in
    let moved = c.cast_signed.result in
    let fits : FitsSigned w128 moved = search rules in
    ap (λ z. cast_signed w128 (cast_unsigned w128 (int_shr z k))) (to_z-of_z w128 moved fits)
    ∙ to_z-of_z w128 (int_shr moved k) (fits_shr w128 moved k fits)
    ∙ ap (λ z. int_shr z k) (c.cast_signed.ensures ∙ ap (λ n. cast_signed w128 (n * 2 ^ k % 2 ^ 128)) c.get.ensures)
    ∙ signed_by_shifts m k c.self.inside.bits some sum c.self.invariant
    ∙ ap (λ v. signed v.width v.number) c.self.view_is
