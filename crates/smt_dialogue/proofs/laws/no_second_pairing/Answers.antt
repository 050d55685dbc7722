use Rattle.smt_dialogue.proofs.ValidityLemmas.{only_pairing}
use Rattle.smt_dialogue.proofs.laws.no_second_pairing.Goals as goal

pub returns : goal.returns
returns c = only_pairing c.one_forest.ensures.one
