use Rattle.std.proofs.Common.{◌∙◌}
use Rattle.smt_ratios.specs.Bytes.{of_eight}
use Rattle.smt_ratios.proofs.words.EightBytes.get.Goals as goal

pub returns-clause-value : goal.returns-clause-value
unfolding of_eight
returns-clause-value c = c.from_le_bytes.ensures ∙ c.self.view_is
