use Rattle.std.proofs.Common.{get_or, ap, arith}
use Rattle.smt_text.proofs.KindLemmas.{kind-symbol}
use Rattle.smt_text.proofs.byte_class.is_symbol_byte.Goals as goal

pub returns : goal.returns
returns c = kind-symbol c.args.byte (get_or c.kinds.result.now c.args.byte 0)
    (omega (arith, c.ranges.byte.fits)) (ap (λ xs. get_or xs c.args.byte 0) c.kinds.ensures)
