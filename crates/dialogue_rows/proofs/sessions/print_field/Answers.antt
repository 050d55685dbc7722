use Rattle.dialogue_rows.proofs.sessions.print_field.Goals as goal

pub returns-in_ok-print_lines-in-lines-clause-stands : goal.returns-in_ok-print_lines-in-lines-clause-stands
returns-in_ok-print_lines-in-lines-clause-stands g c =
    c.print_lines.ensures.stands c.requires.stands.0 c.requires.stands.1
