use Rattle.smt_forms.specs.NamesIn.{names_in}
use Rattle.std.proofs.Common.{is_some, ap, ◌∙◌}
use Rattle.smt_forms.proofs.RepeatedLemmas.{among-place}
use Rattle.smt_forms.proofs.name_set.NameSet.contains.Goals as goal

pub returns : goal.returns
unfolding names_in
returns c =
    c.is_some.ensures ∙ ap is_some c.find.ensures
    ∙ among-place 0 c.args.self.now.places c.args.name.now
