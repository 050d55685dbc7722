use Rattle.std.proofs.Common.{rules}
use Rattle.smt_bits.proofs.signed.bvsrem.Goals as goal

pub returns : goal.returns
returns c = search rules
