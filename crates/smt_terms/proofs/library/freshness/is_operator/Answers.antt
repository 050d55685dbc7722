use Rattle.std.proofs.Common.{◌≡◌, Option, Some, None, option_map, is_some, refl, ap, ◌∙◌}
use Rattle.smt_theory.specs.PlainOp.{op_of_plain}
use Rattle.smt_theory.specs.declared.op.plain.PlainOp.{PlainOp}
use Rattle.smt_terms.proofs.library.freshness.is_operator.Goals as goal

is_some_op : (o : Option PlainOp) → is_some o ≡ is_some (option_map op_of_plain o)
is_some_op None = refl
is_some_op (Some op) = refl

pub returns : goal.returns
returns c = c.is_some.ensures ∙ is_some_op c.plain_op_of.result ∙ ap is_some c.plain_op_of.ensures
