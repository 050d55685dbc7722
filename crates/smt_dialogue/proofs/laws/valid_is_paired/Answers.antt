use Rattle.smt_dialogue.proofs.laws.valid_is_paired.Goals as goal

pub returns : goal.returns
returns c = λ options script answers v. (v.pairs, v.paired)
