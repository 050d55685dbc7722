use Rattle.std.proofs.Common.{rules}
use Rattle.smt_values.proofs.literal_values.bin.Goals as goal

pub returns : goal.returns
returns c = search rules
