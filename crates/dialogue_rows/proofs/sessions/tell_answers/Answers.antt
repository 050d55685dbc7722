use Rattle.dialogue_rows.proofs.OutcomeLemmas.{if_ok}
use Rattle.dialogue_rows.proofs.sessions.tell_answers.Goals as goal

pub returns-clause-stands : goal.returns-clause-stands
returns-clause-stands g c =
    if_ok c.went.result (_, c.answers.ensures.stands c.requires.stands.0 c.requires.stands.1)
