use Rattle.smt_dialogue.proofs.DecidedLemmas.{answered_line, closed_line, ended_line, unconfirmed_has}
use Rattle.smt_dialogue.proofs.laws.so_far.decided_checks_have_their_lines.Goals as goal

pub returns-clause-answered : goal.returns-clause-answered
returns-clause-answered c = answered_line

pub returns-clause-unconfirmed : goal.returns-clause-unconfirmed
returns-clause-unconfirmed c = unconfirmed_has

pub returns-clause-ended : goal.returns-clause-ended
returns-clause-ended c = ended_line

pub returns-clause-closed : goal.returns-clause-closed
returns-clause-closed c = closed_line
