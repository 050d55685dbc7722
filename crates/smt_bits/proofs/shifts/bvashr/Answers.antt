use Rattle.std.proofs.Common.{rules, ◌≡◌, ◌^◌, min, pos, FitsSigned, ap, ap₂, ◌∙◌}
use Rattle.std.proofs.lemmas.Int.{to_z-of_z}
use Rattle.std.specs.Int.{w128, cast_signed, cast_unsigned, int_div_euclid, int_shr}
use Rattle.smt_bits.specs.BitVector.{modulo, vector}
use Rattle.smt_bits.proofs.ShiftLemmas.{ashr_capped}
use Rattle.smt_bits.proofs.SignedLemmas.{fits_shr}
use Rattle.smt_bits.proofs.shifts.bvashr.Goals as goal

pub returns : goal.returns
returns c =
    let t = c.args.t.number in
    let z = c.signed.result in
    let k = c.min.result in
    let fits : FitsSigned w128 z = search rules in
    let amount : k ≡ min t 127 = cc in
    let moved : cast_signed w128 (cast_unsigned w128 (int_shr (cast_signed w128 (cast_unsigned w128 z)) k))
    ≡ int_div_euclid z (pos (2 ^ t)) =
    ap (λ x. cast_signed w128 (cast_unsigned w128 (int_shr x k))) (to_z-of_z w128 z fits)
    ∙ to_z-of_z w128 (int_shr z k) (fits_shr w128 z k fits)
    ∙ ap (int_shr z) amount
    ∙ ashr_capped z t fits
    in
    c.from_signed.ensures
    ∙ ap₂ (λ w x. vector w (modulo w x)) c.width.ensures
    (moved ∙ ap (λ x. int_div_euclid x (pos (2 ^ t))) c.signed.ensures)
