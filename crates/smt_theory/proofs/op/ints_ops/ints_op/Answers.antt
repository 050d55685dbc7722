use Rattle.std.proofs.Common.{◌∙◌, ap}
use Rattle.std.specs.Prelude.{option_map}
use Rattle.smt_theory.specs.PlainOp.{op_of_plain}
use Rattle.smt_theory.proofs.NamesLikeLemmas.{ints_found}
use Rattle.smt_theory.proofs.op.ints_ops.ints_op.Goals as goal

pub returns : goal.returns
returns c =
    ap (option_map op_of_plain) c.if_named.ensures
    ∙ ints_found c.args.symbol.now _ _ c.byte_at.ensures c.ints_like.ensures
