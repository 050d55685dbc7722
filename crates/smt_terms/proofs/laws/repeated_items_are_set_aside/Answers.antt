use Rattle.smt_terms.proofs.SetAsideLemmas.{set_aside}
use Rattle.smt_terms.proofs.laws.repeated_items_are_set_aside.Goals as goal

pub returns : goal.returns
returns c = set_aside c.sorts_are_compared.ensures
