use Rattle.smt_eval.proofs.RenamingLemmas.{renamed_alone}
use Rattle.smt_eval.proofs.laws.elements_matter_by_their_names_alone.Goals as goal

pub returns : goal.returns
returns c = λ z definitions g r term injective bodies none.
    renamed_alone g injective z definitions r term bodies none
