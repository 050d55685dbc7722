use Rattle.dialogue_rows.proofs.dialogues.pieces.end_answers.Goals as goal

pub returns-in_err-see-clause-stands : goal.returns-in_err-see-clause-stands
returns-in_err-see-clause-stands c =
    c.see.ensures.stands _ (c.end_answers-told.ensures.stands c.requires.stands.0 c.requires.stands.1)

pub returns-clause-stands : goal.returns-clause-stands
returns-clause-stands c =
    c.see.ensures.stands _ (c.end_answers-told.ensures.stands c.requires.stands.0 c.requires.stands.1)
