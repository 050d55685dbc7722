use Rattle.std.proofs.Common.{◌∙◌, List, length, ap, sym}
use Rattle.std.specs.Bool.{◌==◌}
use Rattle.std.proofs.lemmas.Result.{IfOk-weaker}
use Rattle.smt_arrays.specs.declared.arrays.Cell.{Cell}
use Rattle.smt_arrays.proofs.LiftLemmas.{value_held}
use Rattle.smt_arrays.proofs.OperateLemmas.{empty_held, held_result, value_known}
use Rattle.smt_arrays.proofs.arrays.Arrays.operate.Goals as goal

pub returns-then-takes_values-clause-known : goal.returns-then-takes_values-clause-known
returns-then-takes_values-clause-known c =
    (value_known c.args.self.now c.is_empty-without_arrays.result c.args.op c.args.args.now c.apply_in_place.result
    c.requires.held
    (empty_held (length c.args.self.now) c.is_empty-without_arrays.result c.args.args.now
    (c.is_empty-without_arrays.ensures
    ∙ ap (λ (cells : List Cell). length cells == 0) (c.as_slice.ensures.value ∙ c.self.view_is)) c.requires.held)
    (sym c.takes_values.ensures ∙ c.if-takes_values.true) c.apply_in_place.ensures).0

pub returns-then-takes_values-clause-held : goal.returns-then-takes_values-clause-held
returns-then-takes_values-clause-held c =
    value_held (length c.args.self.now)
    c.is_empty-without_arrays.result c.args.op c.args.args.now c.apply_in_place.result
    c.requires.held (sym c.takes_values.ensures ∙ c.if-takes_values.true) c.apply_in_place.ensures

pub returns-else-takes_values-clause-held : goal.returns-else-takes_values-clause-held
returns-else-takes_values-clause-held c =
    IfOk-weaker c.operate_on_arrays.result _ _ (λ v h. held_result _ _ _ v h) c.operate_on_arrays.ensures.known
