use Rattle.std.proofs.Common.{◌∙◌, sym, refl, true, false}
use Rattle.smt_values.proofs.KnownLoopLemmas.{implication_is}
use Rattle.smt_values.proofs.operations.bools.implication.Goals as goal

pub returns-then-is_met : goal.returns-then-is_met
returns-then-is_met c =
    implication_is c.args.args.now c.in-Some.premises.now c.in-Some.conclusion.now true _
    c.in-Some.ensures.cases.0 (sym c.if-is_met.true ∙ c.is_met.ensures) refl

pub returns-then-is_missed : goal.returns-then-is_missed
returns-then-is_missed c =
    implication_is c.args.args.now c.in-Some.premises.now c.in-Some.conclusion.now false true
    c.in-Some.ensures.cases.0 (sym c.if-is_met.false ∙ c.is_met.ensures)
    (sym c.if-is_missed.true ∙ c.is_missed.ensures)

pub returns-else-is_missed : goal.returns-else-is_missed
returns-else-is_missed c =
    implication_is c.args.args.now c.in-Some.premises.now c.in-Some.conclusion.now false false
    c.in-Some.ensures.cases.0 (sym c.if-is_met.false ∙ c.is_met.ensures)
    (sym c.if-is_missed.false ∙ c.is_missed.ensures)
