use Rattle.dialogue_rows.proofs.OutcomeLemmas.{if_ok}
use Rattle.dialogue_rows.proofs.sessions.tell_script.Goals as goal

pub returns-clause-stands : goal.returns-clause-stands
returns-clause-stands g c =
    if_ok c.went.result (_, c.script.ensures.stands c.requires.stands.0 c.requires.stands.1)
