use Rattle.smt_dialogue.proofs.VerdictLawLemmas.{what_is_false}
use Rattle.smt_dialogue.proofs.laws.invalid_names_what_is_false.Goals as goal

pub returns : goal.returns
returns c = what_is_false
