use Rattle.smt_dialogue.proofs.VerdictLawLemmas.{not_both}
use Rattle.smt_dialogue.proofs.laws.valid_is_not_invalid.Goals as goal

pub returns : goal.returns
returns c = not_both
