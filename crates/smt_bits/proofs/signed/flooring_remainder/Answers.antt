use Rattle.std.proofs.Common.{◌≡◌, ◌≢◌, pos, of_z, ap, ◌∙◌, arith}
use Rattle.std.proofs.lemmas.Int.{ints, to_z-of_z}
use Rattle.std.specs.Int.{w128, int_rem_euclid}
use Rattle.smt_bits.specs.Operators as meaning
use Rattle.smt_bits.proofs.SignedDivisionLemmas.{flooring_adjusted, flooring_exact, flooring_positive}
use Rattle.smt_bits.proofs.SignedDivisionLemmas.{rem_euclid_positive}
use Rattle.smt_bits.proofs.signed.flooring_remainder.Goals as goal
use Rattle.smt_bits.proofs.signed.flooring_remainder.Goals.{else-n-lt0-via-then-n-lt0+else-remainder-ne0}
use Rattle.smt_bits.proofs.signed.flooring_remainder.Goals.{else-n-lt0-via-else-n-lt0}

pub returns-then-remainder-ne0 : goal.returns-then-remainder-ne0
returns-then-remainder-ne0 c =
    let r : c.wrapping_rem_euclid-remainder.result ≡ int_rem_euclid c.args.a c.args.n = grind
    (arith, to_z-of_z, c.wrapping_rem_euclid-remainder.ensures) in
    let some : int_rem_euclid c.args.a c.args.n ≢ pos 0 = λ none. c.if-remainder-ne0.true
    (ap (of_z w128) (r ∙ none)) in
    let e = flooring_adjusted c.args.a c.args.n (omega (arith, ints)) some in
    let low = rem_euclid_positive c.args.a c.args.n in
    omega (arith, ints)

pub returns-else-n-lt0 : goal.returns-else-n-lt0
returns-else-n-lt0 c =
    let r : c.wrapping_rem_euclid-remainder.result ≡ int_rem_euclid c.args.a c.args.n = grind
    (arith, to_z-of_z, c.wrapping_rem_euclid-remainder.ensures) in
    elim c.else-n-lt0.branch [
      | else-n-lt0-via-then-n-lt0+else-remainder-ne0 w ↦
          let e : int_rem_euclid c.args.a c.args.n ≡ meaning.flooring_remainder c.args.a c.args.n =
          flooring_exact c.args.a c.args.n (omega (arith, ints))
          (omega (arith, ints, r, w.if-remainder-ne0.false)) in omega (arith, ints)
      | else-n-lt0-via-else-n-lt0 w ↦
          let e : int_rem_euclid c.args.a c.args.n ≡ meaning.flooring_remainder c.args.a c.args.n =
          flooring_positive c.args.a c.args.n (omega (arith, ints)) in omega (arith, ints)
    ]
