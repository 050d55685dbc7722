use Rattle.std.proofs.Common.{◌∙◌, ap, sym}
use Rattle.std.specs.Prelude.{Some}
use Rattle.smt_values.specs.Element.{Truth}
use Rattle.smt_values.proofs.KnownLoopLemmas.{chained_all, chained_open}
use Rattle.smt_values.proofs.operations.bools.equality.Goals as goal

pub returns-then-all_are_known : goal.returns-then-all_are_known
returns-then-all_are_known c =
    ap (λ b. Some (Truth b)) c.are_all_same.ensures ∙ chained_all c.args.args.now
    (sym c.all_are_known.ensures ∙ c.if-all_are_known.true)

pub returns-else-all_are_known : goal.returns-else-all_are_known
returns-else-all_are_known c =
    chained_open c.args.args.now (sym c.all_are_known.ensures ∙ c.if-all_are_known.false)
