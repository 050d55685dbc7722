use Rattle.smt_dialogue.proofs.VerdictLawLemmas.{with_ill_sorted_assumption}
use Rattle.smt_dialogue.proofs.laws.ill_sorted_assumption_is_not_valid.Goals as goal

pub returns : goal.returns
returns c = λ options script answers before after check place term sat assumed ill v.
    with_ill_sorted_assumption options script answers before check after place term sat assumed ill v
