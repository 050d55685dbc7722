use Rattle.std.proofs.Common.{◌∙◌, ap, sym, rules}
use Rattle.std.proofs.lemmas.Int.{to_z-of_z}
use Rattle.std.specs.Int.{w128}
use Rattle.std.specs.Prelude.{FitsSigned, int_le, int_lt}
use Rattle.smt_bits.specs.BitVector.{signed}
use Rattle.smt_values.specs.BitOperations.{are_compared}
use Rattle.smt_values.proofs.operations.bits.is_related.Goals as goal

pub returns-in-SignedLess : goal.returns-in-SignedLess
returns-in-SignedLess c =
    let s : FitsSigned w128 c.signed.result = search rules in
    let t : FitsSigned w128 c.signed-in-SignedLess.result = search rules in
    (λ i. int_lt (to_z-of_z w128 c.signed.result s i) (to_z-of_z w128 c.signed-in-SignedLess.result t i)) ∙
    (λ i. int_lt (c.signed.ensures i) (c.signed-in-SignedLess.ensures i))
    ∙ ap (λ m. int_lt (signed c.args.s.width c.args.s.number) (signed m c.args.t.number)) (sym c.requires)
    ∙ ap (λ op. are_compared op c.args.s c.args.t) (sym c.in-SignedLess.is)

pub returns-in-SignedAtMost : goal.returns-in-SignedAtMost
returns-in-SignedAtMost c =
    let s : FitsSigned w128 c.signed-in-SignedAtMost.result = search rules in
    let t : FitsSigned w128 c.signed-in-SignedAtMost-2.result = search rules in
    (λ i. int_le (to_z-of_z w128 c.signed-in-SignedAtMost.result s i)
    (to_z-of_z w128 c.signed-in-SignedAtMost-2.result t i)) ∙
    (λ i. int_le (c.signed-in-SignedAtMost.ensures i) (c.signed-in-SignedAtMost-2.ensures i))
    ∙ ap (λ m. int_le (signed c.args.s.width c.args.s.number) (signed m c.args.t.number)) (sym c.requires)
    ∙ ap (λ op. are_compared op c.args.s c.args.t) (sym c.in-SignedAtMost.is)

pub returns-in-SignedGreater : goal.returns-in-SignedGreater
returns-in-SignedGreater c =
    let s : FitsSigned w128 c.signed-in-SignedGreater-2.result = search rules in
    let t : FitsSigned w128 c.signed-in-SignedGreater.result = search rules in
    (λ i. int_lt (to_z-of_z w128 c.signed-in-SignedGreater-2.result s i)
    (to_z-of_z w128 c.signed-in-SignedGreater.result t i)) ∙
    (λ i. int_lt (c.signed-in-SignedGreater-2.ensures i) (c.signed-in-SignedGreater.ensures i))
    ∙ ap (λ m. int_lt (signed m c.args.t.number) (signed c.args.s.width c.args.s.number)) (sym c.requires)
    ∙ ap (λ op. are_compared op c.args.s c.args.t) (sym c.in-SignedGreater.is)

pub returns-in-SignedAtLeast : goal.returns-in-SignedAtLeast
returns-in-SignedAtLeast c =
    let s : FitsSigned w128 c.signed-in-SignedAtLeast-2.result = search rules in
    let t : FitsSigned w128 c.signed-in-SignedAtLeast.result = search rules in
    (λ i. int_le (to_z-of_z w128 c.signed-in-SignedAtLeast-2.result s i)
    (to_z-of_z w128 c.signed-in-SignedAtLeast.result t i)) ∙
    (λ i. int_le (c.signed-in-SignedAtLeast-2.ensures i) (c.signed-in-SignedAtLeast.ensures i))
    ∙ ap (λ m. int_le (signed m c.args.t.number) (signed c.args.s.width c.args.s.number)) (sym c.requires)
    ∙ ap (λ op. are_compared op c.args.s c.args.t) (sym c.in-SignedAtLeast.is)
