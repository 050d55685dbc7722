use Rattle.std.proofs.Common.{false}
use Rattle.smt_arrays.proofs.OperateLemmas.{takes_values_else, value_known}
use Rattle.smt_arrays.proofs.arrays.Arrays.operate_on_arrays.Goals as goal

pub returns-in_default-clause-known : goal.returns-in_default-clause-known
returns-in_default-clause-known c =
    value_known c.args.self.now false c.args.op c.args.args.now c.apply_in_place.result c.requires.held (λ e. cc)
    (takes_values_else false c.args.op c.in_default.not-Arrays c.in_default.not-Core) c.apply_in_place.ensures
