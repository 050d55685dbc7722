use Rattle.std.proofs.Common.{◌≡◌, ◌≤◌, FitsSigned, ap, sym, ◌∙◌, rules}
use Rattle.std.specs.Int.{w128, cast_signed, cast_unsigned}
use Rattle.smt_bits.specs.BitVector.{modulo, signed, vector}
use Rattle.smt_bits.proofs.SignedDivisionLemmas.{bvsdiv_by, quotient_is}
use Rattle.smt_bits.proofs.signed.bvsdiv.Goals as goal

pub returns : goal.returns
returns c =
    let m = c.args.s.width in
    let t = c.args.t.number in
    let within : m ≤ 128 = search rules in
    let x = c.signed-2.result in
    let y = c.signed-3.result in
    let q = c.wrapping_div.result in
    let fx : FitsSigned w128 x = search rules in
    let fy : FitsSigned w128 y = search rules in
    let fq : FitsSigned w128 q = search rules in
    let is_n : y ≡ signed m t = c.signed-3.ensures ∙ ap (λ w. signed w t) (sym c.requires) in
    let e = quotient_is m (signed m c.args.s.number)
    (signed m t) x y q within fx fy fq c.signed-2.ensures is_n c.wrapping_div.ensures in
    c.from_signed-2.ensures
    ∙ ap (λ w. vector w (modulo w (cast_signed w128 (cast_unsigned w128 q)))) c.width-2.ensures
    ∙ ap (vector m) (e ∙ sym
    (bvsdiv_by m c.args.s.number t (λ none. c.if-number-eq0.false (c.number.ensures.value ∙ none))))
