use Rattle.smt_dialogue.proofs.VerdictLawLemmas.{with_untrue_assumption}
use Rattle.smt_dialogue.proofs.laws.untrue_assumption_is_not_valid.Goals as goal

pub returns : goal.returns
returns c = λ options script answers before after check model definitions place term z sat printed read assumed
    untrue v.
    with_untrue_assumption options script answers before check after model definitions place term z sat printed read
    assumed untrue v
