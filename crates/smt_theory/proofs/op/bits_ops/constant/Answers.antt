use Rattle.std.proofs.Common.{◌∙◌, map, sym}
use Rattle.smt_theory.specs.Index.{index_view}
use Rattle.smt_theory.proofs.BitsOperatorLemmas.{constant_by-large}
use Rattle.smt_theory.proofs.op.bits_ops.constant.Goals as goal

pub returns-in_err-value : goal.returns-in_err-value
returns-in_err-value c =
    let indexed = sym c.only_width.ensures ∙ c.in_ok-width.was in
    c.from_residual-in_err-value.ensures
    ∙ sym (constant_by-large c.args.digits.now (map index_view c.args.indexes.now) c.in_ok-width.width indexed
    (sym c.number.ensures ∙ c.in_err-value.was))
