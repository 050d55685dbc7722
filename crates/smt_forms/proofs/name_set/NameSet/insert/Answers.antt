use Rattle.smt_forms.specs.NamesIn.{names_in}
use Rattle.smt_forms.proofs.name_set.NameSet.insert.Goals as goal

pub returns : goal.returns
unfolding names_in
returns c = c.push.ensures
