use Rattle.smt_dialogue.proofs.VerdictLawLemmas.{with_ill_sorted}
use Rattle.smt_dialogue.proofs.laws.ill_sorted_assertion_is_not_valid.Goals as goal

pub returns : goal.returns
returns c = λ options script answers before after earlier check term sat asserted ill v.
    with_ill_sorted options script answers before check after earlier term sat asserted ill v
