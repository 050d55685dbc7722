use Rattle.smt_dialogue.proofs.VerdictLawLemmas.{with_untrue}
use Rattle.smt_dialogue.proofs.laws.untrue_assertion_is_not_valid.Goals as goal

pub returns : goal.returns
returns c = λ options script answers before after earlier check model definitions term z sat printed read
    asserted untrue v.
    with_untrue options script answers before check after model definitions earlier term z sat printed read
    asserted untrue v
