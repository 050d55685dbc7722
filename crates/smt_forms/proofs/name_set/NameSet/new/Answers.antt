use Rattle.smt_forms.specs.NamesIn.{names_in}
use Rattle.smt_forms.proofs.name_set.NameSet.new.Goals as goal

pub returns : goal.returns
unfolding names_in
returns c = c.new.ensures
