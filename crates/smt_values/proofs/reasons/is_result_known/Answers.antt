use Rattle.std.proofs.Common.{◌∙◌}
use Rattle.smt_values.proofs.ReasonLemmas.{distinct_known}
use Rattle.smt_values.proofs.reasons.is_result_known.Goals as goal

pub returns-then-is_distinct : goal.returns-then-is_distinct
returns-then-is_distinct c = c.all_are_known.ensures
    ∙ distinct_known c.args.op.now c.args.args.now (c.is_distinct.ensures c.if-is_distinct.true)
