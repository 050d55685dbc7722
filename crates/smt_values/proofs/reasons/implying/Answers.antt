use Rattle.std.proofs.Common.{◌∙◌, false, sym, true}
use Rattle.smt_values.proofs.ReasonLemmas.{implying_is}
use Rattle.smt_values.proofs.reasons.implying.Goals as goal

pub returns-then-is : goal.returns-then-is
returns-then-is c = implying_is c.args.args.now c.in-Some.premises.now c.in-Some.conclusion.now true
    c.in-Some.ensures.cases.0 (sym c.is.ensures ∙ c.if-is.true)

pub returns-else-is : goal.returns-else-is
returns-else-is c = c.first.ensures
    ∙ implying_is c.args.args.now c.in-Some.premises.now c.in-Some.conclusion.now false
    c.in-Some.ensures.cases.0 (sym c.is.ensures ∙ c.if-is.false)
