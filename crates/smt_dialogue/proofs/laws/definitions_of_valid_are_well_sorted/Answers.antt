use Rattle.smt_dialogue.proofs.VerdictLawLemmas.{structures_of}
use Rattle.smt_dialogue.proofs.laws.definitions_of_valid_are_well_sorted.Goals as goal

pub returns : goal.returns
returns c = λ options script answers before after check model definitions sat printed read v.
    structures_of options script answers before check after model definitions sat printed read v
