use Rattle.smt_forms.proofs.PartLemmas.{variables_used}
use Rattle.smt_forms.proofs.laws.used_variables_occur_free.Goals as goal

pub returns : goal.returns
returns c = variables_used
