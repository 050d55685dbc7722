use Rattle.example_session.proofs.tell_script.Goals as goal

pub returns-clause-stands : goal.returns-clause-stands
returns-clause-stands g c =
    c.print_lines.ensures.stands _ (c.script-outcome.ensures.stands c.requires.stands.0 c.requires.stands.1)
