use Rattle.std.proofs.Common.{◌∙◌, ap, sym}
use Rattle.std.specs.Prelude.{Some}
use Rattle.smt_values.specs.Element.{Truth}
use Rattle.smt_values.proofs.KnownLoopLemmas.{distinct_all, distinct_open}
use Rattle.smt_values.proofs.operations.bools.distinctness.Goals as goal

pub returns-then-all_are_known : goal.returns-then-all_are_known
returns-then-all_are_known c =
    ap (λ b. Some (Truth b)) c.are_all_distinct.ensures ∙ distinct_all c.args.args.now
    (sym c.all_are_known.ensures ∙ c.if-all_are_known.true)

pub returns-else-all_are_known : goal.returns-else-all_are_known
returns-else-all_are_known c =
    distinct_open c.args.args.now (sym c.all_are_known.ensures ∙ c.if-all_are_known.false)
