use Rattle.std.proofs.Common.{◌∙◌}
use Rattle.smt_terms.proofs.sorts.SortNames.get.Goals as goal

pub returns : goal.returns
returns c = c.copied.ensures ∙ c.get.ensures
