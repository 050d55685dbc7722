use Rattle.smt_dialogue.proofs.VerdictLawLemmas.{without_model}
use Rattle.smt_dialogue.proofs.laws.sat_without_model_is_not_valid.Goals as goal

pub returns : goal.returns
returns c = λ options script answers before after check sat none v.
    without_model options script answers before check after sat none v
