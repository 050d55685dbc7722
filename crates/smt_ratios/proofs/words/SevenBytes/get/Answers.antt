use Rattle.std.proofs.Common.{◌∙◌}
use Rattle.smt_ratios.specs.Bytes.{of_seven}
use Rattle.smt_ratios.proofs.ByteLemmas.{seven_read}
use Rattle.smt_ratios.proofs.words.SevenBytes.get.Goals as goal

pub returns-clause-value : goal.returns-clause-value
unfolding of_seven
returns-clause-value c = seven_read _ _ c.from_le_bytes.ensures ∙ c.self.view_is
