use Rattle.smt_dialogue.proofs.VerdictLawLemmas.{with_faulty}
use Rattle.smt_dialogue.proofs.laws.faulty_model_is_not_valid.Goals as goal

pub returns : goal.returns
returns c = λ options script answers before after check model fault sat printed faulty v.
    with_faulty options script answers before check after model fault sat printed faulty v
