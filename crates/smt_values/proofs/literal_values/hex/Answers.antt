use Rattle.std.proofs.Common.{rules}
use Rattle.smt_values.proofs.literal_values.hex.Goals as goal

pub returns : goal.returns
returns c = search rules
