use Rattle.std.proofs.Common.{rules}
use Rattle.smt_bits.proofs.PartLemmas.{or_concat}
use Rattle.smt_bits.proofs.parts.concat.Goals as goal

pub returns : goal.returns
returns c = search (rules, or_concat)
