use Rattle.smt_forms.proofs.ElementNameLemmas.{stripped}
use Rattle.smt_forms.proofs.element_names.behind.Goals as goal

pub returns : goal.returns
returns c = stripped c.args.first.now c.args.symbol.now c.strip_prefix.result c.strip_prefix.ensures.cases
