use Rattle.example_session.proofs.end_both.Goals as goal

pub end_answers-requires-clause-stands : goal.end_answers-requires-clause-stands
end_answers-requires-clause-stands g c = (_, c.end_script.ensures.stands c.requires.stands.0 c.requires.stands.1)
