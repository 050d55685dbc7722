use Rattle.dialogue_rows.proofs.dialogues.pieces.see.Goals as goal

pub returns-clause-stands : goal.returns-clause-stands
returns-clause-stands c = λ h k. (_, c.take_lines-lines.ensures.stands h k)
