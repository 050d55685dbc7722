use Rattle.example_session.proofs.print_lines.Goals as goal

pub returns-clause-stands : goal.returns-clause-stands
returns-clause-stands g c = λ h k. (_, c.take_lines-lines.ensures.stands h k)
