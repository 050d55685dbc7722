use Rattle.smt_eval.proofs.RenamingLemmas.{renamed_value}
use Rattle.smt_eval.proofs.laws.elements_that_are_not_named_may_have_other_names.Goals as goal

pub returns : goal.returns
returns c = λ z definitions g r term injective bodies only.
    renamed_value g injective z definitions r term bodies only
