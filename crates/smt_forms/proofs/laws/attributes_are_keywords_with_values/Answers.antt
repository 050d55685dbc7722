use Rattle.smt_forms.proofs.AttributeLemmas.{said, tested}
use Rattle.smt_forms.proofs.laws.attributes_are_keywords_with_values.Goals as goal

pub returns : goal.returns
returns c = λ trees. (said trees, tested trees)
