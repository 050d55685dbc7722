use Rattle.dialogue_rows.proofs.sessions.tell_end.Goals as goal

pub returns-in_ok-went-in-script-clause-stands : goal.returns-in_ok-went-in-script-clause-stands
returns-in_ok-went-in-script-clause-stands g c =
    (_, c.end_script.ensures.stands c.requires.stands.0 c.requires.stands.1)

pub returns-in_ok-went-in-answers-clause-stands : goal.returns-in_ok-went-in-answers-clause-stands
returns-in_ok-went-in-answers-clause-stands g c =
    (_, c.end_answers.ensures.stands c.requires.stands.0 c.requires.stands.1)
