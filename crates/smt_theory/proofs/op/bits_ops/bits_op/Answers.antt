use Rattle.std.proofs.Common.{◌∙◌, ap}
use Rattle.std.specs.Prelude.{option_map}
use Rattle.smt_theory.specs.PlainOp.{op_of_plain}
use Rattle.smt_theory.proofs.NamesLikeLemmas.{bits_found_by}
use Rattle.smt_theory.proofs.op.bits_ops.bits_op.Goals as goal

pub returns : goal.returns
returns c =
    ap (option_map op_of_plain) c.if_named.ensures
    ∙ bits_found_by c.args.symbol.now _ _ _ _ c.byte_at-third.ensures c.byte_at-fourth.ensures c.byte_at-fifth.ensures
    c.bits_like.ensures
